-- What the size of a record says.
-- Assumes nothing.
use Rattle.ground.proofs.Names.{ℕ, ◌+◌, arith, Bool, true, false, ◌≡◌, refl, if}

-- what a size says
pub size_zero : (b : Bool) (n size : ℕ) → size ≡ if b (5 + n) 0 → size ≡ 0 → b ≡ false
size_zero true n size e z = absurd (omega arith)
size_zero false n size e z = refl
