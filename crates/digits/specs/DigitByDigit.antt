-- Believed: document 01, "Registers", digit by digit: what each digit of both planes holds after a write, and after R=1.
-- Assumes nothing.
use Rattle.std.specs.Prelude.{ℕ, ◌<◌, ◌≢◌, ◌≡◌, length, get_or, replicate}
use Rattle.words.specs.declared.Plane.{Plane}
use Rattle.words.specs.declared.Plane.TheVariants.{P0, P1}
use Rattle.digits.specs.Digits.{plane_of, digit_written, both_written, cleared}
use Rattle.digits.specs.declared.Planes.{Planes}

-- digit i of a plane
abbrev pub digit_at : Planes → Plane → ℕ → ℕ
digit_at x p i = get_or (plane_of x p) i 0

-- every digit of every plane
pub record DigitByDigit : Type 0 where
  -- P0 is the first plane, P1 the second
  pub planes : (x : Planes) → (plane_of x P0 ≡ x.p0) × (plane_of x P1 ≡ x.p1)
  -- 0x20+d writes plane P0, 0x40+d plane P1: the digit holds the byte, every other digit of the plane and the other plane what they held
  pub written : (x : Planes) (p : Plane) (i v : ℕ) → length (plane_of x p) ≡ 16 → i < 16 → digit_at (digit_written x p i v) p i ≡ v
  pub others_written : (x : Planes) (p : Plane) (i j v : ℕ) → j ≢ i → digit_at (digit_written x p i v) p j ≡ digit_at x p j
  pub p1_kept : (x : Planes) (i v : ℕ) → (digit_written x P0 i v).p1 ≡ x.p1
  pub p0_kept : (x : Planes) (i v : ℕ) → (digit_written x P1 i v).p0 ≡ x.p0
  -- 0x60+d writes the same byte in both
  pub written_both : (x : Planes) (p : Plane) (i v : ℕ) → length (plane_of x p) ≡ 16 → i < 16 → digit_at (both_written x i v) p i ≡ v
  pub others_both : (x : Planes) (p : Plane) (i j v : ℕ) → j ≢ i → digit_at (both_written x i v) p j ≡ digit_at x p j
  -- a plane keeps its length
  pub length_written : (x : Planes) (p q : Plane) (i v : ℕ) → length (plane_of (digit_written x p i v) q) ≡ length (plane_of x q)
  pub length_both : (x : Planes) (p : Plane) (i v : ℕ) → length (plane_of (both_written x i v) p) ≡ length (plane_of x p)
  -- R=1: all 32 plane bytes are 0
  pub all_cleared : (p : Plane) → plane_of cleared p ≡ replicate 16 0
