-- What a byte lights is what Tables 9 to 11 say.
-- Assumes nothing.
use Rattle.ground.proofs.Names.{ℕ, ◌+◌, ◌-◌, ◌/◌, ◌%◌, ◌<◌, arith, Bool, true, false, not, ◌&&◌, List, [], ◌∷◌, map, ◌≡◌, refl, ap, sym, ◌∙◌, eqb, get_or, eqb-true, List·getD-map, bit, odd, all_at, tabulate}
use Rattle.wiring.specs.Segments.{Segment, dp, 1dp, Light, nothing, glyph, point, first, second, light_of}
use Rattle.glyphs.specs.Glyphs.{blank, hex_on, lit_by}
use Rattle.glyphs.specs.Tables.{letters, characters, those, GlyphTables}

-- D6 to D0, and D7
low_bits : (v : ℕ) → v < 128 → (128 + v) % 128 ≡ v
low_bits v h = omega arith

unlit_character : (hex : Bool) (font : List ℕ) (s : Segment) (v n : ℕ) → v < 128 → light_of s ≡ glyph n → lit_by hex font v s ≡ bit n (get_or font v 0)
unlit_character hex font s v n h e = let m : v % 128 ≡ v = omega arith in rw e (ap (λ k. bit n (get_or font k 0)) m)

lit_character : (hex : Bool) (font : List ℕ) (s : Segment) (v n : ℕ) → v < 128 → light_of s ≡ glyph n → lit_by hex font (128 + v) s ≡ bit n (get_or font v 0)
lit_character hex font s v n h e = rw e (ap (λ k. bit n (get_or font k 0)) (low_bits v h))

unlit_point : (hex : Bool) (font : List ℕ) (v : ℕ) → v < 128 → lit_by hex font v dp ≡ false
unlit_point hex font v h = let e : v / 128 ≡ 0 = omega arith in ap odd e

lit_point : (hex : Bool) (font : List ℕ) (v : ℕ) → v < 128 → lit_by hex font (128 + v) dp ≡ true
lit_point hex font v h = let e : (128 + v) / 128 ≡ 1 = omega arith in ap odd e

-- the characters, one after the other
abbrev sixteen : List ℕ
sixteen = 0 ∷ 1 ∷ 2 ∷ 3 ∷ 4 ∷ 5 ∷ 6 ∷ 7 ∷ 8 ∷ 9 ∷ 10 ∷ 11 ∷ 12 ∷ 13 ∷ 14 ∷ 15 ∷ []

-- the segments of a character, or of none where it is blank
abbrev lit : Bool → ℕ → Light → Bool
lit dark c nothing = false
lit dark c (glyph n) = false
lit dark c point = false
lit dark c (first n) = not dark && hex_on c n
lit dark c (second n) = false

unfoldable on : Bool → ℕ → List Segment
on dark c = those (λ s. lit dark c (light_of s)) letters

table_11 : map (on false) sixteen ≡ characters
unfolding on
table_11 = refl

character : (c : ℕ) → c < 16 → on false c ≡ get_or characters c []
unfolding on
character c h =
    let e : get_or sixteen c 16 ≡ c = eqb-true _ _ (all_at (λ k. eqb (get_or sixteen k 16) k) 16 refl c h) in
    ap (on false) (sym e) ∙ sym (List·getD-map (on false) sixteen c 16) ∙ ap (λ (rows : List (List Segment)). get_or rows c []) table_11

by_character : (font : List ℕ) (v : ℕ) → those (lit_by true font v) letters ≡ on (blank v) (v % 16)
unfolding on
by_character font v = refl

hexadecimal : (font : List ℕ) (v : ℕ) → eqb (v % 128) 0x10 ≡ false → those (lit_by true font v) letters ≡ get_or characters (v % 16) []
hexadecimal font v e = by_character font v ∙ ap (λ b. on b (v % 16)) e ∙ character (v % 16) (omega arith)

blanked : (font : List ℕ) (v : ℕ) → eqb (v % 128) 0x10 ≡ true → those (lit_by true font v) letters ≡ []
unfolding on
blanked font v e = by_character font v ∙ ap (λ b. on b (v % 16)) e

direct : (font : List ℕ) (v : ℕ) → map (lit_by false font v) (1dp ∷ letters) ≡ tabulate 8 (λ r. bit (7 - r) v)
unfolding tabulate
direct font v = refl

pub glyph_tables : GlyphTables
glyph_tables =
    record {
      unlit_character = unlit_character;
      lit_character = lit_character;
      unlit_point = unlit_point;
      lit_point = lit_point;
      direct = direct;
      hexadecimal = hexadecimal;
      hex_point = λ font v. refl;
      blanked = blanked;
      second_digit = λ hex font v. refl;
    }
