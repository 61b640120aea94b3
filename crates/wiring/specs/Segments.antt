-- Believed: document 01, "Segments and brightness": the segments of a cathode by their names, each display's list of them, and the bit that lights each.
-- Assumes nothing.
use Rattle.std.specs.Prelude.{ℕ, Bool, true, false, List, [], ◌∷◌}
use Rattle.wiring.specs.declared.Display.{Display}
use Rattle.wiring.specs.declared.Display.TheVariants.{Sixteen, Fourteen, SevenPair}

-- a segment by its name in the lists below: none; those of a 16-segment digit; a and d, which a 14-segment digit has in place of a1 a2 and d1 d2;
-- those of the first digit of a 7-segment pair, digit d, and of the second, digit da
pub data Segment : Type 0 where
  none : Segment
  a1 a2 b c d1 d2 e f g1 g2 h i j k l m dp : Segment
  a d : Segment
  1a 1b 1c 1d 1e 1f 1g 1dp : Segment
  2a 2b 2c 2d 2e 2f 2g 2dp : Segment

-- 16: a1 a2 b c d1 d2 e f g1 g2 h i j k l m dp
abbrev pub sixteen : List Segment
sixteen = a1 ∷ a2 ∷ b ∷ c ∷ d1 ∷ d2 ∷ e ∷ f ∷ g1 ∷ g2 ∷ h ∷ i ∷ j ∷ k ∷ l ∷ m ∷ dp ∷ []

-- 14: a, none, b c d, none, e f g1 g2 h i j k l m dp
abbrev pub fourteen : List Segment
fourteen = a ∷ none ∷ b ∷ c ∷ d ∷ none ∷ e ∷ f ∷ g1 ∷ g2 ∷ h ∷ i ∷ j ∷ k ∷ l ∷ m ∷ dp ∷ []

-- 7: 1a, none, 1b 1c 1d 1dp 1e 1f 1g 2a 2b 2c 2d 2e 2f 2g 2dp
abbrev pub pair : List Segment
pair = 1a ∷ none ∷ 1b ∷ 1c ∷ 1d ∷ 1dp ∷ 1e ∷ 1f ∷ 1g ∷ 2a ∷ 2b ∷ 2c ∷ 2d ∷ 2e ∷ 2f ∷ 2g ∷ 2dp ∷ []

-- the list of a display
abbrev pub list_of : Display → List Segment
list_of Sixteen = sixteen
list_of Fourteen = fourteen
list_of SevenPair = pair

-- what lights a segment: nothing ("none"); bit n of its digit's glyph word; D7, of a 14- or 16-segment digit; Dn of the first digit of a 7-segment
-- pair, or of the second
pub data Light : Type 0 where
  nothing : Light
  glyph : ℕ → Light
  point : Light
  first : ℕ → Light
  second : ℕ → Light

-- "bit 15 down to 0 being a1 to m; a 14-segment digit takes a from bit 15, d from bit 11, and skips bits 14 and 10. D7 is dp"; of each digit of a
-- pair "D7 to D0 = dp a b c d e f g"
abbrev pub light_of : Segment → Light
light_of none = nothing
light_of a1 = glyph 15
light_of a2 = glyph 14
light_of b = glyph 13
light_of c = glyph 12
light_of d1 = glyph 11
light_of d2 = glyph 10
light_of e = glyph 9
light_of f = glyph 8
light_of g1 = glyph 7
light_of g2 = glyph 6
light_of h = glyph 5
light_of i = glyph 4
light_of j = glyph 3
light_of k = glyph 2
light_of l = glyph 1
light_of m = glyph 0
light_of dp = point
light_of a = glyph 15
light_of d = glyph 11
light_of 1dp = first 7
light_of 1a = first 6
light_of 1b = first 5
light_of 1c = first 4
light_of 1d = first 3
light_of 1e = first 2
light_of 1f = first 1
light_of 1g = first 0
light_of 2dp = second 7
light_of 2a = second 6
light_of 2b = second 5
light_of 2c = second 4
light_of 2d = second 3
light_of 2e = second 2
light_of 2f = second 1
light_of 2g = second 0

-- whether anything lights a segment
abbrev pub is_light : Light → Bool
is_light nothing = false
is_light (glyph n) = true
is_light point = true
is_light (first n) = true
is_light (second n) = true

-- "none" is no segment
abbrev pub is_segment : Segment → Bool
is_segment s = is_light (light_of s)
