-- A number that matches none of the arms of a `match` on numbers in a row.
-- Assumes nothing.
use Prim.Native.Nat.{ℕ, zero, suc, ◌+◌, ◌/◌, ◌≤◌}
use native.Mathlib.Omega.{arith}
use mathlib.Core.Bool.{false}
use mathlib.Core.Path.{◌≡◌}
use lib.Dec.{eqb}
use borrow.Author.Tests.{ne_eqb}

-- x is none of the n numbers from b on
abbrev pub NoneOf : ℕ → ℕ → ℕ → Type 0
NoneOf zero b x = Unit
NoneOf (suc n) b x = NoneOf n b x × (x ≡ b + n → ⊥)

-- a number from b on that is none of them is past them
pub past_arms : (n b x : ℕ) → NoneOf n b x → b ≤ x → b + n ≤ x
past_arms zero b x m h = omega arith
past_arms (suc n) b x (m, ne) h = let l : b + n ≤ x = past_arms n b x m h in omega arith

-- none of 0x08 to 0x0F: not in the second row of eight
pub not_second : (x : ℕ) → NoneOf 8 8 x → eqb (x / 8) 1 ≡ false
not_second x m = ne_eqb (x / 8) 1 (λ e. let l : 16 ≤ x = past_arms 8 8 x m (omega arith) in omega arith)
