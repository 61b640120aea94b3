-- Believed: document 01, "Segments and brightness": what a digit's byte lights beside Tables 9 to 11, by the names of the segments.
-- Assumes nothing.
use Rattle.std.specs.Prelude.{ℕ, ◌+◌, ◌-◌, ◌%◌, ◌<◌, Bool, true, false, List, [], ◌∷◌, map, ◌≡◌, eqb, get_or}
use Rattle.ground.specs.Choice.{if, bit}
use Rattle.ground.specs.Lists.{tabulate}
use Rattle.wiring.specs.Segments.{Segment, dp, 1a, 1b, 1c, 1d, 1e, 1f, 1g, 1dp, 2a, 2b, 2c, 2d, 2e, 2f, 2g, 2dp, glyph, light_of}
use Rattle.glyphs.specs.Glyphs.{lit_by}

-- A to G of the first digit of a pair
abbrev pub letters : List Segment
letters = 1a ∷ 1b ∷ 1c ∷ 1d ∷ 1e ∷ 1f ∷ 1g ∷ []

-- Table 11: the segments of the characters 0 to F that are on
abbrev pub characters : List (List Segment)
characters =
    (1a ∷ 1b ∷ 1c ∷ 1d ∷ 1e ∷ 1f ∷ [])
    ∷ (1b ∷ 1c ∷ [])
    ∷ (1a ∷ 1b ∷ 1d ∷ 1e ∷ 1g ∷ [])
    ∷ (1a ∷ 1b ∷ 1c ∷ 1d ∷ 1g ∷ [])
    ∷ (1b ∷ 1c ∷ 1f ∷ 1g ∷ [])
    ∷ (1a ∷ 1c ∷ 1d ∷ 1f ∷ 1g ∷ [])
    ∷ (1a ∷ 1c ∷ 1d ∷ 1e ∷ 1f ∷ 1g ∷ [])
    ∷ (1a ∷ 1b ∷ 1c ∷ [])
    ∷ (1a ∷ 1b ∷ 1c ∷ 1d ∷ 1e ∷ 1f ∷ 1g ∷ [])
    ∷ (1a ∷ 1b ∷ 1c ∷ 1d ∷ 1f ∷ 1g ∷ [])
    ∷ (1a ∷ 1b ∷ 1c ∷ 1e ∷ 1f ∷ 1g ∷ [])
    ∷ (1c ∷ 1d ∷ 1e ∷ 1f ∷ 1g ∷ [])
    ∷ (1a ∷ 1d ∷ 1e ∷ 1f ∷ [])
    ∷ (1b ∷ 1c ∷ 1d ∷ 1e ∷ 1g ∷ [])
    ∷ (1a ∷ 1d ∷ 1e ∷ 1f ∷ 1g ∷ [])
    ∷ (1a ∷ 1e ∷ 1f ∷ 1g ∷ [])
    ∷ []

-- those of some segments that are on
abbrev pub those : (Segment → Bool) → List Segment → List Segment
those on [] = []
those on (s ∷ ss) = if (on s) (s ∷ those on ss) (those on ss)

-- for every byte, under any table of words
pub record GlyphTables : Type 0 where
  -- Table 9, of a 14- or 16-segment digit: D6 to D0 select character 0 to 127, with the decimal place unlit or lit by D7
  pub unlit_character : (hex : Bool) (font : List ℕ) (s : Segment) (v n : ℕ) → v < 128 → light_of s ≡ glyph n → lit_by hex font v s ≡ bit n (get_or font v 0)
  pub lit_character : (hex : Bool) (font : List ℕ) (s : Segment) (v n : ℕ) → v < 128 → light_of s ≡ glyph n → lit_by hex font (128 + v) s ≡ bit n (get_or font v 0)
  pub unlit_point : (hex : Bool) (font : List ℕ) (v : ℕ) → v < 128 → lit_by hex font v dp ≡ false
  pub lit_point : (hex : Bool) (font : List ℕ) (v : ℕ) → v < 128 → lit_by hex font (128 + v) dp ≡ true
  -- Table 10, direct control: D7 to D0 are dp a b c d e f g
  pub direct : (font : List ℕ) (v : ℕ) → map (lit_by false font v) (1dp ∷ letters) ≡ tabulate 8 (λ r. bit (7 - r) v)
  -- Table 11, the hex font: D3 to D0 give the character, D7 the decimal point; request 2: D6 to D0 of 0010000 alone have none of a to g on
  pub hexadecimal : (font : List ℕ) (v : ℕ) → eqb (v % 128) 0x10 ≡ false → those (lit_by true font v) letters ≡ get_or characters (v % 16) []
  pub blanked : (font : List ℕ) (v : ℕ) → eqb (v % 128) 0x10 ≡ true → those (lit_by true font v) letters ≡ []
  pub hex_point : (font : List ℕ) (v : ℕ) → lit_by true font v 1dp ≡ bit 7 v
  -- the second digit of a pair, by its own byte, as the first
  pub second_digit : (hex : Bool) (font : List ℕ) (v : ℕ) → map (lit_by hex font v) (2dp ∷ 2a ∷ 2b ∷ 2c ∷ 2d ∷ 2e ∷ 2f ∷ 2g ∷ []) ≡ map (lit_by hex font v) (1dp ∷ letters)
