-- Believed: document 02, request 6: what the planner and its check answer to every call that is served.
-- Assumes nothing.
use Rattle.std.specs.Prelude.{ℕ, ◌<◌, List, [], ◌∷◌, ◌++◌, ◌↔◌, ◌≡◌, length, get_or, drop}
use Rattle.device.specs.declared.Device.{Device}
use Rattle.plans.specs.Words.{Sized}
use Rattle.plans.specs.Lists.{record_at, AcceptedList}
use Rattle.plans.specs.Plan.{accesses, planned}
use Rattle.plans.specs.Shortest.{ShortestList}
use Rattle.calls.specs.Calls.{plan, plan_check, ask_chain}
use Rattle.calls.specs.Outcome.{number, reply}

-- what the types of a record and of a byte give
pub record Typed (ds : List Device) (wanted : List ℕ) : Type 0 where
  pub planes : (i : ℕ) → i < length ds → Sized (record_at ds i).registers.planes
  pub bytes : (k : ℕ) → get_or wanted k 0 < 256

-- of every chain that a call is served on
pub record Planned : Type 0 where
  -- the list given back, in front of the lent room, is accepted, and none accepted is shorter
  pub shortest : (ds : List Device) (wanted room : List ℕ) → Typed ds wanted → number (ask_chain (plan wanted room)) ds ≡ 0
      → ShortestList ds wanted × (reply (ask_chain (plan wanted room)) ds ≡ accesses ds wanted ∷ planned ds wanted ++ drop (length (planned ds wanted)) room)
  -- the check answers 1 exactly to the accepted lists
  pub checked : (ds : List Device) (wanted list : List ℕ) → Typed ds wanted → number (ask_chain (plan_check wanted list)) ds ≡ 0
      → (reply (ask_chain (plan_check wanted list)) ds ≡ 1 ∷ []) ↔ AcceptedList ds wanted list
