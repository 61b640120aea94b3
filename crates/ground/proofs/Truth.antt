-- Truth values that are known.
-- Assumes nothing.
use Prim.Native.Nat.{ℕ, suc, ◌%◌}
use native.Mathlib.Nat.{mod-lt, zero-lt-suc}
use native.Mathlib.Omega.{arith}
use mathlib.Core.Bool.{Bool, true, false, ◌&&◌, beq, true≢false}
use mathlib.Core.Path.{◌≡◌, refl, sym}
use lib.Dec.{ltb}
use borrow.Author.Tests.{lt-ltb}
use Rattle.ground.specs.Choice.{if}

pub and_left : (a b : Bool) → (a && b) ≡ true → a ≡ true
and_left true b e = refl
and_left false b e = e

pub and_right : (a b : Bool) → (a && b) ≡ true → b ≡ true
and_right true b e = e
and_right false b e = absurd (true≢false (sym e))

-- two truth values that the test finds the same
pub same : (a b : Bool) → beq a b ≡ true → a ≡ b
same true true t = refl
same false false t = refl
same true false t = absurd (true≢false (sym t))
same false true t = absurd (true≢false (sym t))

-- a test that refuses with a number other than 0 was passed, where the number is 0
pub passed : (b : Bool) (n r : ℕ) → if b n (suc r) ≡ 0 → (b ≡ true) × (n ≡ 0)
passed true n r e = (refl, e)
passed false n r e = absurd (omega (arith, e))

-- a choice of two small numbers is small
pub if_small : (b : Bool) (m n k : ℕ) → ltb m k ≡ true → ltb n k ≡ true → ltb (if b m n) k ≡ true
if_small true m n k p q = p
if_small false m n k p q = q

-- a remainder is small
pub mod_small : (v n : ℕ) → ltb (v % suc n) (suc n) ≡ true
mod_small v n = lt-ltb (v % suc n) (suc n) (mod-lt v (zero-lt-suc n))
