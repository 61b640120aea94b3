-- What writes leave, digit by digit.
-- Assumes nothing.
use Rattle.ground.proofs.Names.{ℕ, ◌<◌, arith, ◌≡◌, ◌≢◌, refl, length, replicate, set, length-set, get_or-set_same, get_or-set_other}
use Rattle.words.specs.declared.Plane.{Plane}
use Rattle.words.specs.declared.Plane.TheVariants.{P0, P1}
use Rattle.digits.specs.Digits.{plane_of, digit_written, both_written, cleared}
use Rattle.digits.specs.DigitByDigit.{digit_at, DigitByDigit}
use Rattle.digits.specs.declared.Planes.{Planes}

-- the plane that is written
one_plane : (x : Planes) (p : Plane) (i v : ℕ) → plane_of (digit_written x p i v) p ≡ set (plane_of x p) i v
one_plane x P0 i v = refl
one_plane x P1 i v = refl

both_planes : (x : Planes) (p : Plane) (i v : ℕ) → plane_of (both_written x i v) p ≡ set (plane_of x p) i v
both_planes x P0 i v = refl
both_planes x P1 i v = refl

module _ (x : Planes) (p : Plane) (i v : ℕ) where
  written : length (plane_of x p) ≡ 16 → i < 16 → digit_at (digit_written x p i v) p i ≡ v
  written l h = rw (one_plane x p i v) (get_or-set_same (plane_of x p) i v 0 (omega (arith, l)))

  others_written : (j : ℕ) → j ≢ i → digit_at (digit_written x p i v) p j ≡ digit_at x p j
  others_written j n = rw (one_plane x p i v) (get_or-set_other (plane_of x p) i j v 0 n)

  both_written_lem : length (plane_of x p) ≡ 16 → i < 16 → digit_at (both_written x i v) p i ≡ v
  both_written_lem l h = rw (both_planes x p i v) (get_or-set_same (plane_of x p) i v 0 (omega (arith, l)))

  others_both : (j : ℕ) → j ≢ i → digit_at (both_written x i v) p j ≡ digit_at x p j
  others_both j n = rw (both_planes x p i v) (get_or-set_other (plane_of x p) i j v 0 n)

  length_both : length (plane_of (both_written x i v) p) ≡ length (plane_of x p)
  length_both = rw (both_planes x p i v) (length-set (plane_of x p) i v)

-- the other plane is as it was
length_written : (x : Planes) (p q : Plane) (i v : ℕ) → length (plane_of (digit_written x p i v) q) ≡ length (plane_of x q)
length_written x P0 P0 i v = length-set x.p0 i v
length_written x P0 P1 i v = refl
length_written x P1 P0 i v = refl
length_written x P1 P1 i v = length-set x.p1 i v

p1_kept : (x : Planes) (i v : ℕ) → (digit_written x P0 i v).p1 ≡ x.p1
p1_kept x i v = refl

p0_kept : (x : Planes) (i v : ℕ) → (digit_written x P1 i v).p0 ≡ x.p0
p0_kept x i v = refl

in_order_lem : (x : Planes) → (plane_of x P0 ≡ x.p0) × (plane_of x P1 ≡ x.p1)
in_order_lem x = (refl, refl)

all_zero : (p : Plane) → plane_of cleared p ≡ replicate 16 0
all_zero P0 = refl
all_zero P1 = refl

pub digit_by_digit : DigitByDigit
digit_by_digit =
    record {
      planes = in_order_lem;
      written = written;
      others_written = λ x p i j v. others_written x p i v j;
      p1_kept = p1_kept;
      p0_kept = p0_kept;
      written_both = both_written_lem;
      others_both = λ x p i j v. others_both x p i v j;
      length_written = length_written;
      length_both = λ x p i v. length_both x p i v;
      all_cleared = all_zero;
    }
