-- Believed: document 02, request 3: the scan, pin level, clocks and question calls of this bus's lists are the chain's own, whose exported functions serve both buses.
-- Assumes nothing.
use Rattle.std.specs.Prelude.{ℕ, List, ◌≡◌}
use Rattle.device.specs.declared.Device.{Device}
use Rattle.calls.specs.Calls.{Call, Step, Question, give as give_chain, ask as ask_chain}
use Rattle.calls.specs.Outcome.{number as chain_number, after, reply as chain_reply}
use Rattle.bus.specs.declared.Bus.{Bus}
use Rattle.bus.specs.BusCalls.{BusCall, give, ask}
use Rattle.bus.specs.BusOutcome.{number, bus_after, parts_after, reply}

-- a call q of the bus is the chain's call c: its number, the records after it and what it gives back; the bus state isn't touched
pub record IsCall (σ : List ℕ) (q : BusCall) (c : Call) (b : Bus) (ds : List Device) : Type 0 where
  pub same_number : number σ q b ds ≡ chain_number c ds
  pub same_parts : parts_after σ q b ds ≡ after c ds
  pub same_reply : reply σ q b ds ≡ chain_reply c ds
  pub same_bus : bus_after σ q b ds ≡ b

-- under any straps, at any bus state, sound or not
pub record ChainCalls : Type 0 where
  pub gives : (σ : List ℕ) (j : ℕ) (x : Step) (b : Bus) (ds : List Device) → IsCall σ (give j x) (give_chain j x) b ds
  pub asks : (σ : List ℕ) (j : ℕ) (x : Question) (b : Bus) (ds : List Device) → IsCall σ (ask j x) (ask_chain j x) b ds
