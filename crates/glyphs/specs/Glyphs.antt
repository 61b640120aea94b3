-- Believed: document 01, "Segments and brightness", and document 02, request 2: the segments that a digit's byte lights.
-- Assumes nothing.
use Rattle.std.specs.Prelude.{ℕ, ◌-◌, ◌%◌, Bool, false, not, ◌&&◌, List, [], ◌∷◌, eqb, get_or}
use Rattle.ground.specs.Choice.{if, bit}
use Rattle.wiring.specs.Segments.{Segment, Light, nothing, glyph, point, first, second, light_of}

-- the hex font of Table 11: a b c d e f g of the characters 0 to F, 1 being on
abbrev pub table11 : List (List ℕ)
table11 =
    (1 ∷ 1 ∷ 1 ∷ 1 ∷ 1 ∷ 1 ∷ 0 ∷ [])
    ∷ (0 ∷ 1 ∷ 1 ∷ 0 ∷ 0 ∷ 0 ∷ 0 ∷ [])
    ∷ (1 ∷ 1 ∷ 0 ∷ 1 ∷ 1 ∷ 0 ∷ 1 ∷ [])
    ∷ (1 ∷ 1 ∷ 1 ∷ 1 ∷ 0 ∷ 0 ∷ 1 ∷ [])
    ∷ (0 ∷ 1 ∷ 1 ∷ 0 ∷ 0 ∷ 1 ∷ 1 ∷ [])
    ∷ (1 ∷ 0 ∷ 1 ∷ 1 ∷ 0 ∷ 1 ∷ 1 ∷ [])
    ∷ (1 ∷ 0 ∷ 1 ∷ 1 ∷ 1 ∷ 1 ∷ 1 ∷ [])
    ∷ (1 ∷ 1 ∷ 1 ∷ 0 ∷ 0 ∷ 0 ∷ 0 ∷ [])
    ∷ (1 ∷ 1 ∷ 1 ∷ 1 ∷ 1 ∷ 1 ∷ 1 ∷ [])
    ∷ (1 ∷ 1 ∷ 1 ∷ 1 ∷ 0 ∷ 1 ∷ 1 ∷ [])
    ∷ (1 ∷ 1 ∷ 1 ∷ 0 ∷ 1 ∷ 1 ∷ 1 ∷ [])
    ∷ (0 ∷ 0 ∷ 1 ∷ 1 ∷ 1 ∷ 1 ∷ 1 ∷ [])
    ∷ (1 ∷ 0 ∷ 0 ∷ 1 ∷ 1 ∷ 1 ∷ 0 ∷ [])
    ∷ (0 ∷ 1 ∷ 1 ∷ 1 ∷ 1 ∷ 0 ∷ 1 ∷ [])
    ∷ (1 ∷ 0 ∷ 0 ∷ 1 ∷ 1 ∷ 1 ∷ 1 ∷ [])
    ∷ (1 ∷ 0 ∷ 0 ∷ 0 ∷ 1 ∷ 1 ∷ 1 ∷ [])
    ∷ []

-- segment Dn of a character, D6 to D0 being a to g
abbrev pub hex_on : ℕ → ℕ → Bool
hex_on c n = eqb (get_or (get_or table11 c []) (6 - n) 0) 1

-- request 2: a byte whose low seven bits are exactly 0010000 lights none of a to g of a hex digit
abbrev pub blank : ℕ → Bool
blank v = eqb (v % 128) 0b0010000

-- segment Dn of a 7-segment digit, D7 to D0 being dp a b c d e f g: a clear decode bit gives the byte itself; a set one uses the hex font, D7
-- for dp, D6 to D4 ignored in a byte that isn't blank
abbrev pub seven_lit : Bool → ℕ → ℕ → Bool
seven_lit hex v n = if hex (if (eqb n 7) (bit 7 v) (not (blank v) && hex_on (v % 16) n)) (bit n v)

-- what a digit's byte v lights, under the table of its display: D6 to D0 pick the glyph word, D7 is dp
abbrev pub light_on : Bool → List ℕ → ℕ → Light → Bool
light_on hex font v nothing = false
light_on hex font v (glyph n) = bit n (get_or font (v % 128) 0)
light_on hex font v point = bit 7 v
light_on hex font v (first n) = seven_lit hex v n
light_on hex font v (second n) = seven_lit hex v n

-- a segment lit by the byte of its own digit
abbrev pub lit_by : Bool → List ℕ → ℕ → Segment → Bool
lit_by hex font v s = light_on hex font v (light_of s)
