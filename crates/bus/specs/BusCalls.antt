-- Believed: document 02, request 3: "this bus's calls (starts, bytes either way, stops, and the scan, pin level, clocks, plane, segment and brightness calls)".
-- Assumes nothing.
use Rattle.std.specs.Prelude.{ℕ, Bool, true, false}
use Rattle.calls.specs.Calls.{Step, Question}

-- a call on the two-wire bus; what parts are given and asked are the chain's calls
pub data BusCall : Type 0 where
  start : BusCall
  -- a byte given by the master
  put : ℕ → BusCall
  -- a byte asked for by the master
  get : BusCall
  stop : BusCall
  -- part, and what it is given
  give : ℕ → Step → BusCall
  -- part, and what it is asked
  ask : ℕ → Question → BusCall

-- whether a call is given the bus state and leaves one: a scan, pin levels, clocks and a question take none
abbrev pub on_bus : BusCall → Bool
on_bus start = true
on_bus (put v) = true
on_bus get = true
on_bus stop = true
on_bus (give j x) = false
on_bus (ask j x) = false
