-- Believed: document 01, "Registers": the digit planes, 0x20+d plane P0, 0x40+d plane P1, 0x60+d both. Digit d = 0..7 is at place d of a
-- plane, digit da at place d + 8.
-- Assumes nothing.
use Rattle.std.specs.Prelude.{ℕ, List, [], ◌∷◌, ◌++◌, set}
use Rattle.words.specs.declared.Plane.{Plane}
use Rattle.words.specs.declared.Plane.TheVariants.{P0, P1}
use Rattle.digits.specs.declared.Planes.{Planes}

-- the sixteen digits of a plane
abbrev pub plane_of : Planes → Plane → List ℕ
plane_of x P0 = x.p0
plane_of x P1 = x.p1

-- a digit's byte written in one plane; a place above 15 is none
abbrev pub digit_written : Planes → Plane → ℕ → ℕ → Planes
digit_written x P0 i v = record { p0 = set x.p0 i v; p1 = x.p1 }
digit_written x P1 i v = record { p0 = x.p0; p1 = set x.p1 i v }

-- a digit's byte written in both planes
abbrev pub both_written : Planes → ℕ → ℕ → Planes
both_written x i v = digit_written (digit_written x P0 i v) P1 i v

-- eight digits or registers that hold the same
abbrev pub eight : ℕ → List ℕ
eight x = x ∷ x ∷ x ∷ x ∷ x ∷ x ∷ x ∷ x ∷ []

-- all 32 plane bytes 0
abbrev pub cleared : Planes
cleared = record { p0 = eight 0 ++ eight 0; p1 = eight 0 ++ eight 0 }
