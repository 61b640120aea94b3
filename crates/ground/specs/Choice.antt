-- Believed: a choice by a test, and the bits of a number.
-- Assumes nothing.
use Rattle.std.specs.Prelude.{ℕ, zero, suc, ◌/◌, ◌%◌, ◌^◌, Bool, true, false, ◌||◌, eqb}

-- a where the test holds, else b
abbrev pub if : {A : Type 0} → Bool → A → A → A
if true a b = a
if false a b = b

-- bit k of n is 1
abbrev pub bit : ℕ → ℕ → Bool
bit k n = eqb (n / 2 ^ k % 2) 1

-- bit 0 of n is 1
abbrev pub odd : ℕ → Bool
odd n = eqb (n % 2) 1

-- f holds at some number below n
abbrev pub some : ℕ → (ℕ → Bool) → Bool
some zero f = false
some (suc n) f = f 0 || some n (λ k. f (suc k))
