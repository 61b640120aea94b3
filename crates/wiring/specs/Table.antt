-- Believed: document 01, "Segments and brightness": the wiring as one table of 456 entries, row for row Tables 2 to 4.
-- Assumes nothing.
use Rattle.std.specs.Prelude.{ℕ, ◌+◌, ◌-◌, ◌*◌, ◌<◌, ◌||◌, List, [], ◌∷◌, ◌++◌, map, ◌≡◌, eqb, get_or, replicate, set}
use Rattle.ground.specs.Choice.{if}
use Rattle.ground.specs.Lists.{tabulate}
use Rattle.wiring.specs.Segments.{Segment, none, 1a, 1b, 1c, 1d, 1e, 1f, 1g, 1dp, 2a, 2b, 2c, 2d, 2e, 2f, 2g, 2dp, sixteen, fourteen, pair, list_of, Light, nothing, glyph, point, first, second, light_of}
use Rattle.wiring.specs.Wiring.{digit_of, Wire, cathode, not_driven, carries, partner, rule_at, wire_at}
use Rattle.wiring.specs.declared.Display.{Display}
use Rattle.wiring.specs.declared.Display.TheVariants.{Sixteen, Fourteen, SevenPair}

-- the number of the bit that lights a segment (`glyphs`: Masks), or 17 for none
abbrev pub light_entry : Light → ℕ
light_entry nothing = 17
light_entry (glyph n) = n
light_entry point = 16
light_entry (first n) = n
light_entry (second n) = n + 8

-- a segment's entry
abbrev pub segment_entry : Segment → ℕ
segment_entry s = light_entry (light_of s)

-- a pin's entry: that of the segment that it carries, or 18 for the cathode and 19 for a pin that isn't driven
abbrev pub wire_entry : Wire → ℕ
wire_entry cathode = 18
wire_entry not_driven = 19
wire_entry (carries s) = segment_entry s

-- a display's place in the table
abbrev pub display_index : Display → ℕ
display_index Sixteen = 0
display_index Fourteen = 1
display_index SevenPair = 2

-- 16-segment: cathodes 0 to 7, each of pins O0 to O18 (Table 2)
abbrev sixteen_wires : List ℕ
sixteen_wires =
    18 ∷ 19 ∷ 15 ∷ 14 ∷ 13 ∷ 12 ∷ 11 ∷ 10 ∷ 9 ∷ 8 ∷ 7 ∷ 6 ∷ 5 ∷ 4 ∷ 3 ∷ 2 ∷ 1 ∷ 0 ∷ 16
    ∷ 19 ∷ 18 ∷ 15 ∷ 14 ∷ 13 ∷ 12 ∷ 11 ∷ 10 ∷ 9 ∷ 8 ∷ 7 ∷ 6 ∷ 5 ∷ 4 ∷ 3 ∷ 2 ∷ 1 ∷ 0 ∷ 16
    ∷ 15 ∷ 14 ∷ 18 ∷ 19 ∷ 13 ∷ 12 ∷ 11 ∷ 10 ∷ 9 ∷ 8 ∷ 7 ∷ 6 ∷ 5 ∷ 4 ∷ 3 ∷ 2 ∷ 1 ∷ 0 ∷ 16
    ∷ 15 ∷ 14 ∷ 19 ∷ 18 ∷ 13 ∷ 12 ∷ 11 ∷ 10 ∷ 9 ∷ 8 ∷ 7 ∷ 6 ∷ 5 ∷ 4 ∷ 3 ∷ 2 ∷ 1 ∷ 0 ∷ 16
    ∷ 15 ∷ 14 ∷ 13 ∷ 12 ∷ 18 ∷ 19 ∷ 11 ∷ 10 ∷ 9 ∷ 8 ∷ 7 ∷ 6 ∷ 5 ∷ 4 ∷ 3 ∷ 2 ∷ 1 ∷ 0 ∷ 16
    ∷ 15 ∷ 14 ∷ 13 ∷ 12 ∷ 19 ∷ 18 ∷ 11 ∷ 10 ∷ 9 ∷ 8 ∷ 7 ∷ 6 ∷ 5 ∷ 4 ∷ 3 ∷ 2 ∷ 1 ∷ 0 ∷ 16
    ∷ 15 ∷ 14 ∷ 13 ∷ 12 ∷ 11 ∷ 10 ∷ 18 ∷ 19 ∷ 9 ∷ 8 ∷ 7 ∷ 6 ∷ 5 ∷ 4 ∷ 3 ∷ 2 ∷ 1 ∷ 0 ∷ 16
    ∷ 15 ∷ 14 ∷ 13 ∷ 12 ∷ 11 ∷ 10 ∷ 19 ∷ 18 ∷ 9 ∷ 8 ∷ 7 ∷ 6 ∷ 5 ∷ 4 ∷ 3 ∷ 2 ∷ 1 ∷ 0 ∷ 16
    ∷ []

-- 14-segment (Table 3)
abbrev fourteen_wires : List ℕ
fourteen_wires =
    18 ∷ 19 ∷ 15 ∷ 17 ∷ 13 ∷ 12 ∷ 11 ∷ 17 ∷ 9 ∷ 8 ∷ 7 ∷ 6 ∷ 5 ∷ 4 ∷ 3 ∷ 2 ∷ 1 ∷ 0 ∷ 16
    ∷ 19 ∷ 18 ∷ 15 ∷ 17 ∷ 13 ∷ 12 ∷ 11 ∷ 17 ∷ 9 ∷ 8 ∷ 7 ∷ 6 ∷ 5 ∷ 4 ∷ 3 ∷ 2 ∷ 1 ∷ 0 ∷ 16
    ∷ 15 ∷ 17 ∷ 18 ∷ 19 ∷ 13 ∷ 12 ∷ 11 ∷ 17 ∷ 9 ∷ 8 ∷ 7 ∷ 6 ∷ 5 ∷ 4 ∷ 3 ∷ 2 ∷ 1 ∷ 0 ∷ 16
    ∷ 15 ∷ 17 ∷ 19 ∷ 18 ∷ 13 ∷ 12 ∷ 11 ∷ 17 ∷ 9 ∷ 8 ∷ 7 ∷ 6 ∷ 5 ∷ 4 ∷ 3 ∷ 2 ∷ 1 ∷ 0 ∷ 16
    ∷ 15 ∷ 17 ∷ 13 ∷ 12 ∷ 18 ∷ 19 ∷ 11 ∷ 17 ∷ 9 ∷ 8 ∷ 7 ∷ 6 ∷ 5 ∷ 4 ∷ 3 ∷ 2 ∷ 1 ∷ 0 ∷ 16
    ∷ 15 ∷ 17 ∷ 13 ∷ 12 ∷ 19 ∷ 18 ∷ 11 ∷ 17 ∷ 9 ∷ 8 ∷ 7 ∷ 6 ∷ 5 ∷ 4 ∷ 3 ∷ 2 ∷ 1 ∷ 0 ∷ 16
    ∷ 15 ∷ 17 ∷ 13 ∷ 12 ∷ 11 ∷ 17 ∷ 18 ∷ 19 ∷ 9 ∷ 8 ∷ 7 ∷ 6 ∷ 5 ∷ 4 ∷ 3 ∷ 2 ∷ 1 ∷ 0 ∷ 16
    ∷ 15 ∷ 17 ∷ 13 ∷ 12 ∷ 11 ∷ 17 ∷ 19 ∷ 18 ∷ 9 ∷ 8 ∷ 7 ∷ 6 ∷ 5 ∷ 4 ∷ 3 ∷ 2 ∷ 1 ∷ 0 ∷ 16
    ∷ []

-- 7-segment pairs (Table 4)
abbrev pair_wires : List ℕ
pair_wires =
    18 ∷ 19 ∷ 6 ∷ 17 ∷ 5 ∷ 4 ∷ 3 ∷ 7 ∷ 2 ∷ 1 ∷ 0 ∷ 14 ∷ 13 ∷ 12 ∷ 11 ∷ 10 ∷ 9 ∷ 8 ∷ 15
    ∷ 19 ∷ 18 ∷ 6 ∷ 17 ∷ 5 ∷ 4 ∷ 3 ∷ 7 ∷ 2 ∷ 1 ∷ 0 ∷ 14 ∷ 13 ∷ 12 ∷ 11 ∷ 10 ∷ 9 ∷ 8 ∷ 15
    ∷ 6 ∷ 17 ∷ 18 ∷ 19 ∷ 5 ∷ 4 ∷ 3 ∷ 7 ∷ 2 ∷ 1 ∷ 0 ∷ 14 ∷ 13 ∷ 12 ∷ 11 ∷ 10 ∷ 9 ∷ 8 ∷ 15
    ∷ 6 ∷ 17 ∷ 19 ∷ 18 ∷ 5 ∷ 4 ∷ 3 ∷ 7 ∷ 2 ∷ 1 ∷ 0 ∷ 14 ∷ 13 ∷ 12 ∷ 11 ∷ 10 ∷ 9 ∷ 8 ∷ 15
    ∷ 6 ∷ 17 ∷ 5 ∷ 4 ∷ 18 ∷ 19 ∷ 3 ∷ 7 ∷ 2 ∷ 1 ∷ 0 ∷ 14 ∷ 13 ∷ 12 ∷ 11 ∷ 10 ∷ 9 ∷ 8 ∷ 15
    ∷ 6 ∷ 17 ∷ 5 ∷ 4 ∷ 19 ∷ 18 ∷ 3 ∷ 7 ∷ 2 ∷ 1 ∷ 0 ∷ 14 ∷ 13 ∷ 12 ∷ 11 ∷ 10 ∷ 9 ∷ 8 ∷ 15
    ∷ 6 ∷ 17 ∷ 5 ∷ 4 ∷ 3 ∷ 7 ∷ 18 ∷ 19 ∷ 2 ∷ 1 ∷ 0 ∷ 14 ∷ 13 ∷ 12 ∷ 11 ∷ 10 ∷ 9 ∷ 8 ∷ 15
    ∷ 6 ∷ 17 ∷ 5 ∷ 4 ∷ 3 ∷ 7 ∷ 19 ∷ 18 ∷ 2 ∷ 1 ∷ 0 ∷ 14 ∷ 13 ∷ 12 ∷ 11 ∷ 10 ∷ 9 ∷ 8 ∷ 15
    ∷ []

-- three displays by eight cathodes by nineteen pins
abbrev pub table : List ℕ
table = sixteen_wires ++ fourteen_wires ++ pair_wires

-- the entry of a display, a cathode and a pin
abbrev pub entry_at : Display → ℕ → ℕ → ℕ
entry_at k d p = get_or table (display_index k * 152 + d * 19 + p) 0

-- the pins but the cathode's and its partner's, in rising order
abbrev pub others_of : ℕ → List ℕ → List ℕ
others_of d [] = []
others_of d (p ∷ ps) = if (eqb p d || eqb p (partner d)) (others_of d ps) (p ∷ others_of d ps)

-- of O0 to O18
abbrev pub others : ℕ → List ℕ
others d = others_of d (0 ∷ 1 ∷ 2 ∷ 3 ∷ 4 ∷ 5 ∷ 6 ∷ 7 ∷ 8 ∷ 9 ∷ 10 ∷ 11 ∷ 12 ∷ 13 ∷ 14 ∷ 15 ∷ 16 ∷ 17 ∷ 18 ∷ [])

-- the table obeys the rule: pin d is the cathode, its partner isn't driven, the other 17 in rising order carry the display's list; `entries`
-- says the same entry by entry, by `rule_at`. The lists by bits: bit 15 down to 0 of a glyph word are a1 to m, and a 14-segment digit skips bits 14
-- and 10; of a pair the order of Table 4, and by name that of Table 10, D7 to D0 being dp a b c d e f g of either digit
pub record WiringTable : Type 0 where
  pub cathodes : (k : Display) (d : ℕ) → d < 8 → entry_at k d d ≡ wire_entry cathode
  pub partners : (k : Display) (d : ℕ) → d < 8 → entry_at k d (partner d) ≡ wire_entry not_driven
  pub segments : (k : Display) (d r : ℕ) → d < 8 → r < 17 → entry_at k d (get_or (others d) r 0) ≡ segment_entry (get_or (list_of k) r none)
  pub entries : (k : Display) (d p : ℕ) → d < 8 → p < 19 → entry_at k d p ≡ wire_entry (rule_at k d p)
  pub sixteen_bits : map light_of sixteen ≡ tabulate 16 (λ r. glyph (15 - r)) ++ point ∷ []
  pub fourteen_bits : map light_of fourteen ≡ set (set (map light_of sixteen) 1 nothing) 5 nothing
  pub pair_bits : map light_of pair
      ≡ first 6 ∷ nothing ∷ first 5 ∷ first 4 ∷ first 3 ∷ first 7 ∷ first 2 ∷ first 1 ∷ first 0 ∷ tabulate 7 (λ r. second (6 - r)) ++ second 7 ∷ []
  pub first_names : map light_of (1dp ∷ 1a ∷ 1b ∷ 1c ∷ 1d ∷ 1e ∷ 1f ∷ 1g ∷ []) ≡ tabulate 8 (λ r. first (7 - r))
  pub second_names : map light_of (2dp ∷ 2a ∷ 2b ∷ 2c ∷ 2d ∷ 2e ∷ 2f ∷ 2g ∷ []) ≡ tabulate 8 (λ r. second (7 - r))
  -- the digit that each belongs to: digit d, or of a pair's second eight digit da
  pub own_digits : (d : ℕ) → map (digit_of d) sixteen ++ map (digit_of d) fourteen ≡ replicate 34 d
  pub pair_digits : (d : ℕ) → map (digit_of d) pair ≡ replicate 9 d ++ replicate 8 (d + 8)
  -- a cathode above 7 and a pin above 18 drive nothing
  pub no_cathode : (k : Display) (d p : ℕ) → 7 < d → wire_at k d p ≡ not_driven
  pub no_pin : (k : Display) (d p : ℕ) → 18 < p → wire_at k d p ≡ not_driven
