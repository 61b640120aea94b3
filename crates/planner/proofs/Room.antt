-- The list with a plan's words in it.
-- Assumes nothing.
use Rattle.ground.proofs.Names.{ℕ, ◌-◌, ◌<◌, ◌≤◌, arith, List, ◌∷◌, ◌++◌, ◌≡◌, length, replicate, lt-ltb, le-ltb, le-leb, lt-leb}
use Rattle.controls.specs.declared.Config.{Config}
use Rattle.digits.specs.Digits.{cleared}
use Rattle.digits.specs.declared.Planes.{Planes}
use Rattle.plans.specs.Least.{plain, anew, least}
use Rattle.plans.specs.Plan.{clear_word, steps, plan_by}
use Rattle.plans.proofs.Planner.{length_steps, plan_length}
use Rattle.planner.specs.OneDriver.{put, with_plan}

-- by the words that are needed as the planes are, r, and with a clear, s
module _ (l : List ℕ) (n k i : ℕ) (p : Planes) (c : Config) (q : Planes) (r s : ℕ) (e : r ≡ plain p q) (f : s ≡ anew q) where
  pub kept_many : r ≤ s → k < r → l ≡ with_plan l n k i (plan_by p c q)
  kept_many h m = rw (plan_length, lt-leb (least p q) k (omega arith))

  pub anew_many : s < r → k < s → l ≡ with_plan l n k i (plan_by p c q)
  anew_many h m = rw (plan_length, lt-leb (least p q) k (omega arith))

  pub kept_fits : r ≤ s → r ≤ k → (new : List ℕ) → new ≡ put l n i (steps p q 16 ++ replicate (k - r) 0) → new ≡ with_plan l n k i (plan_by p c q)
  unfolding plan_by
  kept_fits h m new g = rw (le-ltb (anew q) (plain p q) (omega arith), length_steps, ← e, le-leb r k m) g

  pub anew_fits : s < r → s ≤ k → (new : List ℕ)
      → new ≡ put l n i ((clear_word c ∷ steps cleared q 16) ++ replicate (k - s) 0)
      → new ≡ with_plan l n k i (plan_by p c q)
  unfolding plan_by
  anew_fits h m new g =
      let z : length (clear_word c ∷ steps cleared q 16) ≡ s = omega (arith, length_steps cleared q 16) in
      rw (lt-ltb (anew q) (plain p q) (omega arith), z, le-leb s k m) g
