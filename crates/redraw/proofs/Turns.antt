-- A turn of the loops over a lent chain: the accesses that the drivers so far need, whether they accept their words, and the list with their words.
--     reach_turn, accept_turn, list_turn
-- Assumes nothing.
use Rattle.ground.proofs.Names.{ℕ, ◌+◌, ◌<◌, Bool, ◌&&◌, List, ◌≡◌, add-one, length, get_or, max}
use Rattle.device.specs.PowerUp.{power_up}
use Rattle.device.specs.declared.Device.{Device}
use Rattle.plans.specs.Plan.{largest}
use Rattle.plans.specs.Check.{below}
use Rattle.planner.specs.OneDriver.{reach, reach_to, accepts_at, accept_to, with_driver, list_to}
use Rattle.lent.proofs.Passed.{default}

module _ (xs : List Device) (wanted : List ℕ) (i : ℕ) (d : Device) (h : i < length xs) where
  abbrev same : get_or xs i d ≡ get_or xs i power_up
  same = default d power_up xs i h

  pub reach_turn : {most : ℕ} → most ≡ reach_to xs wanted i → max most (reach (get_or xs i d) wanted i) ≡ reach_to xs wanted (i + 1)
  unfolding largest
  reach_turn e = rw (add-one, e, same)

  pub accept_turn : (n : ℕ) (list : List ℕ) {each : Bool} → each ≡ accept_to xs n wanted list i → each && accepts_at (get_or xs i d) n wanted list i ≡ accept_to xs n wanted list (i + 1)
  unfolding below
  accept_turn n list e = rw (add-one, e, same)

  pub list_turn : (list : List ℕ) (k : ℕ) {now : List ℕ} → now ≡ list_to xs wanted list k i → with_driver now wanted (length xs) k i (get_or xs i d) ≡ list_to xs wanted list k (i + 1)
  unfolding list_to
  list_turn list k e = rw (add-one, e, same)
