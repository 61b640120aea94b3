-- Auxiliary: the planner's part of one driver, for any numbers and lengths; and the drivers of a chain one after the other. `accesses`, `planned` and
-- `accepted_list` of `plans` are what is believed.
-- Assumes nothing.
use Rattle.std.specs.Prelude.{ℕ, zero, suc, ◌+◌, ◌*◌, ◌-◌, ◌/◌, Bool, ◌&&◌, List, [], ◌∷◌, ◌++◌, ltb, leb, length, get_or, set, replicate}
use Rattle.ground.specs.Choice.{if}
use Rattle.controls.specs.declared.Config.{Config}
use Rattle.digits.specs.declared.Planes.{Planes}
use Rattle.device.specs.PowerUp.{power_up}
use Rattle.device.specs.declared.Device.{Device}
use Rattle.plans.specs.Act.{drawn}
use Rattle.plans.specs.Words.{allowed_by, every}
use Rattle.plans.specs.Lists.{wanted_at, words_at}
use Rattle.plans.specs.Check.{below, same, accepted_words}
use Rattle.plans.specs.Least.{least}
use Rattle.plans.specs.Plan.{plan_of, largest}

-- there are wanted contents for place i
abbrev pub is_wanted : List ℕ → ℕ → Bool
is_wanted wanted i = ltb i (length wanted / 32)

-- the words that the driver at place i needs; none without wanted contents
abbrev pub reach : Device → List ℕ → ℕ → ℕ
reach d wanted i = if (is_wanted wanted i) (least d.registers.planes (wanted_at wanted i)) 0

-- words at a place of a list and at every n-th after it
unfoldable pub put : List ℕ → ℕ → ℕ → List ℕ → List ℕ
put list n at [] = list
put list n at (w ∷ ws) = put (set list at w) n (at + n) ws

-- there is a place i among n drivers, with wanted contents, and room for k accesses
abbrev pub in_room : ℕ → ℕ → ℕ → ℕ → ℕ → Bool
in_room room wanted n k i = ltb i n && ltb n 17 && ltb k 33 && ltb i (wanted / 32) && leb (k * n) room

-- the list with words to place i and no-ops after them in its first k accesses; as it was where they are more
abbrev pub with_plan : List ℕ → ℕ → ℕ → ℕ → List ℕ → List ℕ
with_plan list n k i ws = if (leb (length ws) k) (put list n i (ws ++ replicate (k - length ws) 0)) list

-- the list with the words of the driver at place i
abbrev pub with_driver : List ℕ → List ℕ → ℕ → ℕ → ℕ → Device → List ℕ
with_driver list wanted n k i d =
    if (in_room (length list) (length wanted) n k i) (with_plan list n k i (plan_of d (wanted_at wanted i))) list

-- words that a driver with configuration c and planes p accepts, which is to hold q
abbrev pub from_planes : Config → Planes → Planes → List ℕ → Bool
from_planes c q p ws = every (allowed_by c) ws && same (drawn p ws) q

-- the driver at place i accepts its words of a list for n drivers; none does without wanted contents
abbrev pub accepts_at : Device → ℕ → List ℕ → List ℕ → ℕ → Bool
accepts_at d n wanted list i = (ltb i n && ltb n 17 && is_wanted wanted i) && accepted_words d (wanted_at wanted i) (words_at n list i)

-- the most words that one of the first m drivers needs
abbrev pub reach_to : List Device → List ℕ → ℕ → ℕ
reach_to ds wanted m = largest m (λ i. reach (get_or ds i power_up) wanted i)

-- the first m drivers accept their words of a list for n
abbrev pub accept_to : List Device → ℕ → List ℕ → List ℕ → ℕ → Bool
accept_to ds n wanted list m = below m (λ i. accepts_at (get_or ds i power_up) n wanted list i)

-- the list with the words of the first m drivers in it
unfoldable pub list_to : List Device → List ℕ → List ℕ → ℕ → ℕ → List ℕ
list_to ds wanted list k zero = list
list_to ds wanted list k (suc m) = with_driver (list_to ds wanted list k m) wanted (length ds) k m (get_or ds m power_up)
