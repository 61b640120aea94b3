-- Auxiliary: what allowed words do to the planes alone. `after_words` is what is believed; proofs/Act.antt shows that the two agree.
-- Assumes nothing.
use Rattle.std.specs.Prelude.{ℕ, ◌/◌, ◌%◌, ◌&&◌, List, [], ◌∷◌, eqb}
use Rattle.ground.specs.Choice.{if, bit}
use Rattle.words.specs.declared.Plane.{Plane}
use Rattle.words.specs.declared.Plane.TheVariants.{P0, P1}
use Rattle.digits.specs.Digits.{digit_written, both_written, cleared}
use Rattle.digits.specs.declared.Planes.{Planes}

-- what an allowed word is to the planes: nothing, a byte to a digit of one plane or of both, a clear
pub data Act : Type 0 where
  stay : Act
  one : Plane → ℕ → ℕ → Act
  both : ℕ → ℕ → Act
  clear : Act

-- the planes after it
abbrev pub acted : Planes → Act → Planes
acted p stay = p
acted p (one b k v) = digit_written p b k v
acted p (both k v) = both_written p k v
acted p clear = cleared

-- what an allowed word is
abbrev pub act_of : ℕ → Act
act_of w =
    if (eqb (w / 4096) 2) (one P0 (w / 256 % 16) (w % 256))
    (if (eqb (w / 4096) 4) (one P1 (w / 256 % 16) (w % 256))
    (if (eqb (w / 4096) 6) (both (w / 256 % 16) (w % 256)) (if (eqb (w / 256) 4 && bit 5 (w % 256)) clear stay)))

-- the planes after a list of words
unfoldable pub drawn : Planes → List ℕ → Planes
drawn p [] = p
drawn p (w ∷ ws) = drawn (acted p (act_of w)) ws
