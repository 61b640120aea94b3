-- Auxiliary: a word's test for a stop by two masks. look_back: Stops `stops` is what is believed.
-- Assumes nothing.
use Rattle.std.specs.Prelude.{ℕ, suc, ◌+◌, ◌*◌, Bool, ◌||◌, Option, None, Some, eqb}
use Rattle.std.specs.Int.Bits.{bit_and}
use Rattle.words.specs.declared.Plane.{Plane}
use Rattle.words.specs.declared.Plane.TheVariants.{P0, P1}
use Rattle.look_back.specs.Stops.{first_address}

-- D15 to D8 but the one in which 0x60+d differs from the plane's own address
abbrev pub mask_of : Plane → ℕ
mask_of P0 = 0xBF00
mask_of P1 = 0xDF00

-- what a write of digit i has under that mask
abbrev pub pattern_of : Plane → ℕ → ℕ
pattern_of p i = first_address p * 256 + i * 256

-- a word has the pattern under the mask, or is a configuration write with R=1
abbrev pub stops_under : ℕ → ℕ → ℕ → Bool
stops_under mask pattern w = eqb (bit_and w mask) pattern || eqb (bit_and w 0xFF20) 0x0420

-- a place counted from 0, or none, as a place counted from 1, or 0
abbrev pub counted : Option ℕ → ℕ
counted None = 0
counted (Some k) = suc k
