-- Believed: document 02, request 13: the lit time of a run: for each driver and cathode the sum over every clock given to that driver.
-- Assumes nothing.
use Rattle.std.specs.Prelude.{ℕ, ◌+◌, List, [], ◌∷◌, eqb}
use Rattle.ground.specs.Choice.{if}
use Rattle.device.specs.PowerUp.{fresh_chain}
use Rattle.device.specs.declared.Device.{Device}
use Rattle.lit_time.specs.LitTime.{lit_time}
use Rattle.calls.specs.Calls.{Step, scan, levels, clocks, Call, access, give, ask, ask_chain}
use Rattle.calls.specs.Served.{record_of}
use Rattle.calls.specs.Outcome.{number, after}
use Rattle.printed.specs.Format.{test_table, Item, chain, call, malformed, items}
use Rattle.printed.specs.Script.{chain_in, others_in}

-- what is given to a driver adds to its cathode d: master clocks alone, under the test table
abbrev pub step_time : Step → Device → ℕ → ℕ
step_time (scan a b c e) x d = 0
step_time (levels l) x d = 0
step_time (clocks k) x d = lit_time x d test_table test_table k

-- what a served call adds to cathode d of driver j: clocks count for the driver that they are given to
abbrev pub served_time : Call → List Device → ℕ → ℕ → ℕ
served_time (access c sent room) ds j d = 0
served_time (give i s) ds j d = if (eqb i j) (step_time s (record_of ds j) d) 0
served_time (ask i q) ds j d = 0
served_time (ask_chain q) ds j d = 0

-- a refused call adds nothing
abbrev pub call_time : Call → List Device → ℕ → ℕ → ℕ
call_time q ds j d = if (eqb (number q ds) 0) (served_time q ds j d) 0

-- what records add on a chain; a malformed record, and a chain record that isn't first, stop the run
unfoldable pub run_time : List Item → List Device → ℕ → ℕ → ℕ
run_time [] ds j d = 0
run_time (chain n ∷ is) ds j d = 0
run_time (call q ∷ is) ds j d = call_time q ds j d + run_time is (after q ds) j d
run_time (malformed ∷ is) ds j d = 0

-- the lit time of cathode d of driver j, of a whole script
abbrev pub script_time : List ℕ → ℕ → ℕ → ℕ
script_time s j d = run_time (others_in (items s)) (fresh_chain (chain_in (items s))) j d
