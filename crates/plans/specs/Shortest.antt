-- Believed: document 02, request 6: "The planner's own list is always accepted, and none accepted is shorter."
-- Assumes nothing.
use Rattle.std.specs.Prelude.{ℕ, ◌*◌, ◌≤◌, true, List, ◌≡◌, length}
use Rattle.digits.specs.declared.Planes.{Planes}
use Rattle.device.specs.Sound.{sound_of}
use Rattle.device.specs.declared.Device.{Device}
use Rattle.plans.specs.Words.{Accepted, Sized, Wanted}
use Rattle.plans.specs.Lists.{AcceptedList, Given}
use Rattle.plans.specs.Plan.{plan_of, accesses, planned}

-- the planner's words for one driver
pub record ShortestWords (d : Device) (q : Planes) : Type 0 where
  pub accepted : Accepted d q (plan_of d q)
  pub none_shorter : (ws : List ℕ) → Accepted d q ws → length (plan_of d q) ≤ length ws
  pub at_most : length (plan_of d q) ≤ 32

-- for every sound driver and all wanted contents
abbrev pub OneDriver : Type 0
OneDriver = (d : Device) (q : Planes) → sound_of d ≡ true → Sized d.registers.planes → Wanted q → ShortestWords d q

-- the planner's list for a chain; "how many accesses it uses, which is the length of the list in accesses and at most 32"
pub record ShortestList (ds : List Device) (wanted : List ℕ) : Type 0 where
  pub accepted : AcceptedList ds wanted (planned ds wanted)
  pub none_shorter : (list : List ℕ) → AcceptedList ds wanted list → length (planned ds wanted) ≤ length list
  pub counted : length (planned ds wanted) ≡ accesses ds wanted * length ds
  pub at_most : accesses ds wanted ≤ 32

-- for every sound chain and all wanted contents
abbrev pub Shortest : Type 0
Shortest = (ds : List Device) (wanted : List ℕ) → Given ds wanted → ShortestList ds wanted
