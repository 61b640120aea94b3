-- Believed: document 01, "Bench examples", those of the display, and more of "Segments and brightness"; document 02, requests 2 and 5:
-- what the definitions give beside what the documents say.
-- Assumes nothing.
use Rattle.std.specs.Prelude.{ℕ, ◌+◌, List, [], ◌∷◌, map, replicate}
use Rattle.ground.specs.Lists.{Agree}
use Rattle.device.specs.PowerUp.{power_up}
use Rattle.device.specs.Record.{with_fitted}
use Rattle.device.specs.Taken.{taken}
use Rattle.device.specs.Table15.{after_words}
use Rattle.device.specs.declared.Device.{Device}
use Rattle.ground.specs.Choice.{if}
use Rattle.wiring.specs.Segments.{Segment, a1, a2, b, dp, 1a, 1b, 1c, 1d, 1e, 1f, 1g, 1dp, 2a, 2b, 2c, 2d, 2e, 2f}
use Rattle.wiring.specs.Wiring.{Wire, cathode, not_driven, carries, wire_at}
use Rattle.brightness.specs.Brightness.{brightness_of, ruler_of, ruler_code}
use Rattle.display.specs.Cathode.{display_of}
use Rattle.display.specs.Pins.{pin_code, pin_at, lit}
use Rattle.display.specs.declared.Pin.TheVariants.{NotDriven, Cathode, Lit, Unlit, NoSegment}

-- pins of a 7-segment pair, by number; it uses no glyph table
abbrev pub pins_of : Device → ℕ → List ℕ → List ℕ
pins_of x d pins = map (λ p. pin_code (pin_at x d [] [] p)) pins

-- segments of a 7-segment pair, 1 where lit
abbrev pub lit_of : Device → ℕ → List Segment → List ℕ
lit_of x d segments = map (λ s. if (lit x d [] [] s) 1 0) segments

-- the code of each cathode's own pin
abbrev pub pins_at_own : Device → List ℕ → List ℕ
pins_at_own x ds = map (λ d. pin_code (pin_at x d [] [] d)) ds

-- dp a b c d e f g of digit d of a pair
abbrev pub first_digit : List Segment
first_digit = 1dp ∷ 1a ∷ 1b ∷ 1c ∷ 1d ∷ 1e ∷ 1f ∷ 1g ∷ []

-- a driver in normal operation, in hex mode from power-up, with a byte at digit 0
abbrev pub hex_digit : ℕ → Device
hex_digit v = after_words power_up (0x0401 ∷ (0x2000 + v) ∷ [])

-- "Bench examples"
abbrev pub rows : List (List ℕ × List ℕ)
rows =
    -- 6: nibbles 0, E, F: 1, 15, 15; the global one, and those of digits 0, 0a, 1a
    (map (λ n. brightness_of (taken (taken power_up 0x0401) (0x0200 + n)) 0) (0x0 ∷ 0xE ∷ 0xF ∷ []), 1 ∷ 15 ∷ 15 ∷ [])
    ∷ (map (λ i. brightness_of (taken (taken power_up 0x0441) 0x14FE) i) (0 ∷ 8 ∷ 9 ∷ []), 1 ∷ 15 ∷ 15 ∷ [])
    -- 7: hex mode, byte 8A at digit 0: dp a b c e f g lit (O7 O2 O4 O5 O8 O9 O10), d unlit (O6)
    ∷ (
      pins_of (taken (taken power_up 0x0401) 0x208A) 0 (7 ∷ 2 ∷ 4 ∷ 5 ∷ 8 ∷ 9 ∷ 10 ∷ 6 ∷ []),
      map pin_code (Lit ∷ Lit ∷ Lit ∷ Lit ∷ Lit ∷ Lit ∷ Lit ∷ Unlit ∷ []),
    )
    ∷ (
      lit_of (taken (taken power_up 0x0401) 0x208A) 0 (1dp ∷ 1a ∷ 1b ∷ 1c ∷ 1e ∷ 1f ∷ 1g ∷ 1d ∷ []),
      1 ∷ 1 ∷ 1 ∷ 1 ∷ 1 ∷ 1 ∷ 1 ∷ 0 ∷ [],
    )
    -- document 02, request 2: hex mode, byte 10 at digit 0: none of dp a b c d e f g lit; 90: dp alone; 20, and 30, 50 and 70, still show 0
    ∷ (pins_of (hex_digit 0x10) 0 (7 ∷ 2 ∷ 4 ∷ 5 ∷ 6 ∷ 8 ∷ 9 ∷ 10 ∷ []), map pin_code (replicate 8 Unlit))
    ∷ (lit_of (hex_digit 0x10) 0 first_digit, 0 ∷ 0 ∷ 0 ∷ 0 ∷ 0 ∷ 0 ∷ 0 ∷ 0 ∷ [])
    ∷ (lit_of (hex_digit 0x90) 0 first_digit, 1 ∷ 0 ∷ 0 ∷ 0 ∷ 0 ∷ 0 ∷ 0 ∷ 0 ∷ [])
    ∷ (lit_of (hex_digit 0x20) 0 first_digit, 0 ∷ 1 ∷ 1 ∷ 1 ∷ 1 ∷ 1 ∷ 1 ∷ 0 ∷ [])
    ∷ (lit_of (hex_digit 0x30) 0 first_digit, 0 ∷ 1 ∷ 1 ∷ 1 ∷ 1 ∷ 1 ∷ 1 ∷ 0 ∷ [])
    ∷ (lit_of (hex_digit 0x50) 0 first_digit, 0 ∷ 1 ∷ 1 ∷ 1 ∷ 1 ∷ 1 ∷ 1 ∷ 0 ∷ [])
    ∷ (lit_of (hex_digit 0x70) 0 first_digit, 0 ∷ 1 ∷ 1 ∷ 1 ∷ 1 ∷ 1 ∷ 1 ∷ 0 ∷ [])
    ∷ []

-- what pins are to a cathode
abbrev pub wires_of : Device → ℕ → List ℕ → List Wire
wires_of x d pins = map (λ p. wire_at (display_of x d) d p) pins

-- 10 and 11, as what is evaluated and what the document says
abbrev pub wire_rows : List (List Wire × List Wire)
wire_rows =
    -- 10: 16-segment, cathode 2: O0 a1, O1 a2, O2 cathode, O3 not driven, O4 b, O18 dp
    (
      wires_of (with_fitted power_up 0) 2 (0 ∷ 1 ∷ 2 ∷ 3 ∷ 4 ∷ 18 ∷ []),
      carries a1 ∷ carries a2 ∷ cathode ∷ not_driven ∷ carries b ∷ carries dp ∷ [],
    )
    -- 11: 7-segment, cathode 6: O5 1dp, O6 cathode, O7 not driven, O8 1e
    ∷ (wires_of power_up 6 (5 ∷ 6 ∷ 7 ∷ 8 ∷ []), carries 1dp ∷ cathode ∷ not_driven ∷ carries 1e ∷ [])
    ∷ []

-- they agree in both
abbrev pub WireExamples : Type 0
WireExamples = Agree wire_rows

-- "Segments and brightness", beside the bench examples
abbrev pub segment_rows : List (List ℕ × List ℕ)
segment_rows =
    -- request 2: the other digit of a pair is blanked by its own byte; direct control has c for 10, and test lights all
    (lit_of (after_words power_up (0x0401 ∷ 0x2001 ∷ 0x2810 ∷ [])) 0 (1b ∷ 1c ∷ 2a ∷ 2b ∷ 2c ∷ 2d ∷ 2e ∷ 2f ∷ []), 1 ∷ 1 ∷ 0 ∷ 0 ∷ 0 ∷ 0 ∷ 0 ∷ 0 ∷ [])
    ∷ (lit_of (after_words power_up (0x0401 ∷ 0x0100 ∷ 0x2010 ∷ [])) 0 first_digit, 0 ∷ 0 ∷ 0 ∷ 1 ∷ 0 ∷ 0 ∷ 0 ∷ 0 ∷ [])
    ∷ (lit_of (after_words power_up (0x0401 ∷ 0x0701 ∷ 0x2010 ∷ [])) 0 first_digit, 1 ∷ 1 ∷ 1 ∷ 1 ∷ 1 ∷ 1 ∷ 1 ∷ 1 ∷ [])
    -- in shutdown, and above a scan limit of 3, a cathode is dark; in test none is
    ∷ (pins_at_own power_up (0 ∷ 7 ∷ []), map pin_code (NotDriven ∷ NotDriven ∷ []))
    ∷ (pins_at_own (after_words power_up (0x0401 ∷ 0x0303 ∷ [])) (0 ∷ 3 ∷ 4 ∷ 7 ∷ []), map pin_code (Cathode ∷ Cathode ∷ NotDriven ∷ NotDriven ∷ []))
    ∷ (pins_at_own (after_words power_up (0x0701 ∷ 0x0303 ∷ [])) (0 ∷ 3 ∷ 4 ∷ 7 ∷ []), map pin_code (Cathode ∷ Cathode ∷ Cathode ∷ Cathode ∷ []))
    -- test lights every segment of a 7-segment pair, of which O3 of cathode 0 carries none; 7 sixteenths, whatever the nibbles
    ∷ (pins_of (taken power_up 0x0701) 0 (1 ∷ 2 ∷ 3 ∷ 4 ∷ 18 ∷ []), map pin_code (NotDriven ∷ Lit ∷ NoSegment ∷ Lit ∷ Lit ∷ []))
    ∷ (map (λ n. brightness_of (after_words power_up (0x0701 ∷ (0x0200 + n) ∷ [])) 0) (0x0 ∷ 0xF ∷ []), 7 ∷ 7 ∷ [])
    -- 0x13 holds digits 6 and 7, the odd one in the high nibble
    ∷ (map (λ i. brightness_of (after_words power_up (0x0441 ∷ 0x1321 ∷ [])) i) (5 ∷ 6 ∷ 7 ∷ 14 ∷ []), 1 ∷ 2 ∷ 3 ∷ 1 ∷ [])
    -- request 5: digits of dark cathodes have 0, in shutdown and above a scan limit of 3, "a" digits too; test lights all
    ∷ (map (λ i. brightness_of (taken power_up 0x020A) i) (0 ∷ 7 ∷ 8 ∷ 15 ∷ []), 0 ∷ 0 ∷ 0 ∷ 0 ∷ [])
    ∷ (map (λ i. brightness_of (after_words power_up (0x0440 ∷ 0x10FF ∷ [])) i) (0 ∷ 1 ∷ []), 0 ∷ 0 ∷ [])
    ∷ (map (λ i. brightness_of (after_words power_up (0x0401 ∷ 0x020A ∷ 0x0303 ∷ [])) i) (3 ∷ 4 ∷ 8 ∷ 11 ∷ 12 ∷ 15 ∷ []), 11 ∷ 0 ∷ 11 ∷ 11 ∷ 0 ∷ 0 ∷ [])
    ∷ (map (λ i. brightness_of (after_words power_up (0x0701 ∷ 0x0300 ∷ [])) i) (0 ∷ 7 ∷ 15 ∷ []), 7 ∷ 7 ∷ 7 ∷ [])
    -- what rules, lit or dark: I=0 the global register, I=1 the digit's own, test over both
    ∷ (
      map (λ ws. ruler_code (ruler_of (after_words power_up ws)))
          ([] ∷ (0x0401 ∷ []) ∷ (0x0440 ∷ []) ∷ (0x0441 ∷ []) ∷ (0x0701 ∷ []) ∷ (0x0441 ∷ 0x0701 ∷ []) ∷ []),
      1 ∷ 1 ∷ 2 ∷ 2 ∷ 3 ∷ 3 ∷ [],
    )
    -- cathode 0 is 14-segment, under its own table: a word of bit 11 lights d, O6, alone
    ∷ (
      map (λ p. pin_code (pin_at (after_words power_up (0x0401 ∷ 0x0C01 ∷ 0x2000 ∷ [])) 0 (0x0800 ∷ []) (0xF7FF ∷ []) p)) (2 ∷ 3 ∷ 6 ∷ 7 ∷ 18 ∷ []),
      map pin_code (Unlit ∷ NoSegment ∷ Lit ∷ NoSegment ∷ Unlit ∷ []),
    )
    -- and 16-segment under the other one, where no 7-segment pair is fitted
    ∷ (
      map (λ p. pin_code (pin_at (after_words (with_fitted power_up 0) (0x0401 ∷ 0x2000 ∷ [])) 0 (0x0800 ∷ []) (0xF7FF ∷ []) p)) (2 ∷ 3 ∷ 6 ∷ 7 ∷ 18 ∷ []),
      map pin_code (Lit ∷ Lit ∷ Unlit ∷ Lit ∷ Unlit ∷ []),
    )
    ∷ []

-- what the definitions give is what the documents say
pub record Examples : Type 0 where
  pub bench : Agree rows
  pub wires : WireExamples
  pub segments : Agree segment_rows
