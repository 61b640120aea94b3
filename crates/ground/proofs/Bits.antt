-- The bits of numbers: of `and`, `or` and complement, at every place and over every width.
-- Assumes nothing.
use Prim.Native.Nat.{ℕ, zero, suc, ◌+◌, ◌-◌, ◌/◌, ◌%◌, ◌^◌, ◌<◌}
use native.Mathlib.Nat.{add-zero, add-suc, mod-lt, zero-lt-suc, pow-suc, pow-succ', div-div-eq-div-mul, div-one}
use native.Mathlib.Omega.{arith}
use mathlib.Core.Bool.{Bool, true, false, not, ◌&&◌, ◌||◌}
use mathlib.Core.Path.{◌≡◌, refl, ap, ◌∙◌}
use lib.Arith.{mod-mul}
use lib.Pow.{pow_pos}
use lib.Dec.{eqb}
use lib.Bits.{bit_and, bit_or, and_shr, and_mod, or_shr, or_mod}
use borrow.Author.Tests.{eq-eqb, ne_eqb}
use Rattle.ground.specs.Choice.{bit, some}

-- an operation on numbers that goes bit by bit, and the one on truth values that it is at each bit
module _ (f : ℕ → ℕ → ℕ) (g : Bool → Bool → Bool)
    (at-00 : eqb (f 0 0) 1 ≡ g false false)
    (at-01 : eqb (f 0 1) 1 ≡ g false true)
    (at-10 : eqb (f 1 0) 1 ≡ g true false)
    (at-11 : eqb (f 1 1) 1 ≡ g true true)
    (shr : (a b k : ℕ) → f a b / 2 ^ k ≡ f (a / 2 ^ k) (b / 2 ^ k))
    (low : (a b k : ℕ) → f a b % 2 ^ k ≡ f (a % 2 ^ k) (b % 2 ^ k)) where
  digitwise : (x y : ℕ) → x < 2 → y < 2 → eqb (f x y) 1 ≡ g (eqb x 1) (eqb y 1)
  digitwise zero zero p q = at-00
  digitwise zero (suc zero) p q = at-01
  digitwise (suc zero) zero p q = at-10
  digitwise (suc zero) (suc zero) p q = at-11
  digitwise zero (suc (suc y)) p q = absurd (omega arith)
  digitwise (suc zero) (suc (suc y)) p q = absurd (omega arith)
  digitwise (suc (suc x)) y p q = absurd (omega arith)

  bitwise : (k a b : ℕ) → bit k (f a b) ≡ g (bit k a) (bit k b)
  bitwise k a b =
      ap (λ (x : ℕ). eqb x 1) (ap (λ (x : ℕ). x % 2) (shr a b k) ∙ low (a / 2 ^ k) (b / 2 ^ k) 1)
      ∙ digitwise (a / 2 ^ k % 2) (b / 2 ^ k % 2) (mod-lt (a / 2 ^ k) (zero-lt-suc 1)) (mod-lt (b / 2 ^ k) (zero-lt-suc 1))

pub and_bit : (k a b : ℕ) → bit k (bit_and a b) ≡ (bit k a && bit k b)
and_bit = bitwise bit_and ◌&&◌ refl refl refl refl and_shr and_mod

pub or_bit : (k a b : ℕ) → bit k (bit_or a b) ≡ (bit k a || bit k b)
or_bit = bitwise bit_or ◌||◌ refl refl refl refl or_shr or_mod

-- bit k + 1 of a number is bit k of its half
pub next_bit : (k n : ℕ) → bit (suc k) n ≡ bit k (n / 2)
next_bit k n = rw (pow-succ', div-div-eq-div-mul)

-- bit k + w of a number is bit k of what stands above its last w bits
pub high_bit : (w k n : ℕ) → bit (k + w) n ≡ bit k (n / 2 ^ w)
high_bit zero k n = rw (add-zero, div-one)
high_bit (suc w) k n =
    let e : n / 2 / 2 ^ w ≡ n / 2 ^ suc w = rw (pow-succ', div-div-eq-div-mul) in
    rw (add-suc, next_bit) (high_bit w k (n / 2) ∙ ap (bit k) e)

-- the half of a number's last w + 1 bits, and its last bit
half_low : (w n : ℕ) → (n % 2 ^ suc w) / 2 ≡ n / 2 % 2 ^ w
half_low w n = rw (pow-suc, mod-mul n (pow_pos w) (zero-lt-suc 1)) (omega arith)

odd_low : (w n : ℕ) → n % 2 ^ suc w % 2 ≡ n % 2
odd_low w n = rw (pow-suc, mod-mul n (pow_pos w) (zero-lt-suc 1)) (omega arith)

-- the last w bits of a number are its own
pub low_bit : (w k n : ℕ) → k < w → bit k (n % 2 ^ w) ≡ bit k n
low_bit zero k n h = absurd (omega arith)
low_bit (suc w) zero n h = rw (div-one, div-one, odd_low)
low_bit (suc w) (suc k) n h = rw (next_bit, next_bit, half_low) (low_bit w k (n / 2) (omega arith))

-- digit 1 or not, by its value
digit_not : (x y : ℕ) → x < 2 → x + y ≡ 1 → eqb y 1 ≡ not (eqb x 1)
digit_not zero y p e = eq-eqb y 1 (omega arith)
digit_not (suc zero) y p e = ne_eqb y 1 (λ q. omega arith)
digit_not (suc (suc x)) y p e = absurd (omega arith)

-- the complement within w bits flips each of them
pub not_bit : (w k y : ℕ) → k < w → y < 2 ^ w → bit k (2 ^ w - 1 - y) ≡ not (bit k y)
not_bit zero k y h q = absurd (omega arith)
not_bit (suc w) zero y h q =
    rw (div-one, div-one) (digit_not (y % 2) ((2 ^ suc w - 1 - y) % 2) (omega arith) (omega arith))
not_bit (suc w) (suc k) y h q =
    let half : (2 ^ suc w - 1 - y) / 2 ≡ 2 ^ w - 1 - y / 2 = omega arith in
    rw (next_bit, next_bit, half) (not_bit w k (y / 2) (omega arith) (omega arith))

or-true : (a : Bool) → true ≡ (a || true)
or-true true = refl
or-true false = refl

-- a number is not 0 where bit 0 of it is 1 or its half is not 0
nonzero_half : (x : ℕ) → not (eqb x 0) ≡ (bit 0 x || not (eqb (x / 2) 0))
nonzero_half zero = refl
nonzero_half (suc zero) = refl
nonzero_half (suc (suc x)) =
    rw (ne_eqb (suc (suc x)) 0 (λ e. omega arith), ne_eqb (suc (suc x) / 2) 0 (λ e. omega arith)) (or-true (bit 0 (suc (suc x))))

-- a number of w bits is not 0 where some bit of it is 1
pub some_bit : (w x : ℕ) → x < 2 ^ w → not (eqb x 0) ≡ some w (λ k. bit k x)
some_bit zero x h = let e : x ≡ 0 = omega arith in rw e
some_bit (suc w) x h = simp (next_bit, ← some_bit w (x / 2) (omega arith)) (nonzero_half x)
