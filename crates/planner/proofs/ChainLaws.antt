-- The drivers of a chain one after the other, where there are wanted contents for each: the accesses of its list, and whether it accepts a list.
-- Assumes nothing.
use Rattle.ground.proofs.Names.{ℕ, zero, suc, ◌*◌, ◌/◌, ◌%◌, ◌<◌, ◌≤◌, max, arith, Bool, true, ◌&&◌, List, ◌≡◌, refl, ap, ap₂, eqb, length, lt-ltb}
use Rattle.device.specs.declared.Device.{Device}
use Rattle.plans.specs.Check.{accepted_list}
use Rattle.plans.specs.Plan.{largest, accesses}
use Rattle.planner.proofs.CheckLaws.{below_ext}
use Rattle.planner.specs.OneDriver.{is_wanted, reach_to, accept_to}

-- functions that are equal below n
largest_ext : (n : ℕ) (f g : ℕ → ℕ) → ((i : ℕ) → i < n → f i ≡ g i) → largest n f ≡ largest n g
unfolding largest
largest_ext zero f g h = refl
largest_ext (suc n) f g h = ap₂ max (largest_ext n f g (λ i l. h i (omega arith))) (h n (omega arith))

wanted_in : (ds : List Device) (wanted : List ℕ) → length wanted ≡ 32 * length ds → (i : ℕ) → i < length ds → is_wanted wanted i ≡ true
wanted_in ds wanted z i h = lt-ltb i (length wanted / 32) (omega (arith, z))

pub reach_accesses : (ds : List Device) (wanted : List ℕ) → length wanted ≡ 32 * length ds → reach_to ds wanted (length ds) ≡ accesses ds wanted
unfolding accesses
reach_accesses ds wanted z = largest_ext (length ds) _ _ (λ i h. rw (wanted_in ds wanted z i h))

pub accept_list : (ds : List Device) (wanted list : List ℕ) → length ds ≤ 16 → length wanted ≡ 32 * length ds
    → (eqb (length list % length ds) 0 && accept_to ds (length ds) wanted list (length ds)) ≡ accepted_list ds wanted list
unfolding accepted_list
accept_list ds wanted list s z =
    ap (λ (b : Bool). eqb (length list % length ds) 0 && b)
    (below_ext (length ds) _ _ (λ i h. rw (lt-ltb i (length ds) h, lt-ltb (length ds) 17 (omega arith), wanted_in ds wanted z i h)))
