-- Believed: document 02, request 9: "looking back from the last word, stopping at the first that writes the byte or clears the planes".
-- Assumes nothing.
use Rattle.std.specs.Prelude.{ℕ, zero, suc, ◌+◌, ◌/◌, ◌%◌, Bool, true, false, not, ◌&&◌, ◌||◌, List, [], ◌∷◌, eqb}
use Rattle.ground.specs.Choice.{bit}
use Rattle.words.specs.declared.Plane.{Plane}
use Rattle.words.specs.declared.Plane.TheVariants.{P0, P1}

-- document 01, "Registers": 0x20+d is plane P0, 0x40+d plane P1
abbrev pub first_address : Plane → ℕ
first_address P0 = 0x20
first_address P1 = 0x40

-- D15 is 0 for a write, D14 to D8 are its address
abbrev pub writes_to : ℕ → ℕ → Bool
writes_to a w = not (bit 15 w) && eqb (w / 256 % 128) a

-- a word "that writes the byte": to digit i in plane p, or to digit i in both (0x60+d)
abbrev pub writes_byte : Plane → ℕ → ℕ → Bool
writes_byte p i w = writes_to (first_address p + i) w || writes_to (0x60 + i) w

-- a word that "clears the planes": a configuration write (0x04) with R=1
abbrev pub clears_planes : ℕ → Bool
clears_planes w = writes_to 0x04 w && bit 5 w

-- a word at which the look back stops
abbrev pub stops : Plane → ℕ → ℕ → Bool
stops p i w = writes_byte p i w || clears_planes w

-- the place of the last word of w ∷ ws at which a test holds, by that of ws and by whether it holds at w
abbrev pub place_before : Bool → ℕ → ℕ
place_before b (suc k) = suc (suc k)
place_before true zero = 1
place_before false zero = 0

-- the place of the last word at which a test holds, counted from 1; 0 where it holds at none
unfoldable pub last_place : (ℕ → Bool) → List ℕ → ℕ
last_place f [] = 0
last_place f (w ∷ ws) = place_before (f w) (last_place f ws)

-- the stopping place: that of the first word, from the last one back, at which the look back stops; 0 where it stops at none
abbrev pub stopping_place : Plane → ℕ → List ℕ → ℕ
stopping_place p i ws = last_place (stops p i) ws
