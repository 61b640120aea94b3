-- Auxiliary: the segments that bytes light, as one number: segment s is bit `segment_entry s`. Bits that no segment of the display has may be set too.
-- Assumes nothing.
use Rattle.std.specs.Prelude.{ℕ, ◌+◌, ◌*◌, ◌/◌, ◌%◌, ◌<◌, Bool, List, [], ◌∷◌, ◌≡◌, eqb, get_or}
use Rattle.ground.specs.Choice.{if, bit}
use Rattle.wiring.specs.Segments.{none, list_of}
use Rattle.wiring.specs.Wiring.{digit_of}
use Rattle.wiring.specs.Table.{segment_entry}
use Rattle.wiring.specs.declared.Display.{Display}
use Rattle.wiring.specs.declared.Display.TheVariants.{Sixteen, Fourteen, SevenPair}
use Rattle.glyphs.specs.Glyphs.{lit_by}

-- Table 11 as bytes, D6 to D0 being a to g
abbrev pub hex_font : List ℕ
hex_font =
    0x7E ∷ 0x30 ∷ 0x6D ∷ 0x79 ∷ 0x33 ∷ 0x5B ∷ 0x5F ∷ 0x70 ∷ 0x7F ∷ 0x7B ∷ 0x77 ∷ 0x1F ∷ 0x4E ∷ 0x3D ∷ 0x4F ∷ 0x47 ∷ []

-- a hex digit: its segments a to g, none where it is blank
abbrev pub hex_segments : ℕ → ℕ
hex_segments v = if (eqb (v % 128) 16) 0 (get_or hex_font (v % 16) 0)

-- a 7-segment digit: its eight segments
abbrev pub seven_segments : Bool → ℕ → ℕ
seven_segments hex v = if hex (v / 128 * 128 + hex_segments v) v

-- a 7-segment pair, v digit d's byte and a digit da's: digit da's eight above digit d's
abbrev pub pair_segments : Bool → ℕ → ℕ → ℕ
pair_segments hex v a = seven_segments hex a * 256 + seven_segments hex v

-- a 14- or 16-segment digit: D7 above the glyph word
abbrev pub glyph_segments : List ℕ → ℕ → ℕ
glyph_segments font v = v / 128 * 65536 + get_or font (v % 128) 0

-- the segments of a cathode, by its display
abbrev pub segments_by : Display → Bool → List ℕ → ℕ → ℕ → ℕ
segments_by Sixteen hex font v a = glyph_segments font v
segments_by Fourteen hex font v a = glyph_segments font v
segments_by SevenPair hex font v a = pair_segments hex v a

-- each segment of a display's list is that bit of the number: for any bytes of the digits and any table of words
abbrev pub SegmentBySegment : Type 0
SegmentBySegment =
    (k : Display) (hex : Bool) (font : List ℕ) (byte : ℕ → ℕ) (d r : ℕ)
    → byte d < 256
    → byte (d + 8) < 256
    → ((i : ℕ) → get_or font i 0 < 65536)
    → r < 17
    → bit (segment_entry (get_or (list_of k) r none)) (segments_by k hex font (byte d) (byte (d + 8)))
    ≡ lit_by hex font (byte (digit_of d (get_or (list_of k) r none))) (get_or (list_of k) r none)
