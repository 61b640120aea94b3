-- What a cathode shows goes by its own bits and its own digits' bytes.
-- Assumes nothing.
use Rattle.ground.proofs.Names.{ℕ, zero, suc, ◌+◌, ◌^◌, ◌<◌, Bool, true, false, ◌&&◌, ◌||◌, Bool·beq, List, [], ◌∷◌, map, ◌≡◌, ◌≢◌, refl, ◌∙◌, ap, eqb, ltb, get_or, replicate, if, bit, tabulate, get_d_tabulate, all, all_at, and_left, and_right, same}
use Rattle.refusals.specs.Refusals.{segments_refusal}
use Rattle.words.specs.declared.Register.TheVariants.{Digit}
use Rattle.registers.specs.Registers.{data_of}
use Rattle.device.specs.Steps.{shown_plane}
use Rattle.device.specs.declared.Device.{Device}
use Rattle.wiring.specs.Segments.{Segment, none, list_of, Light, nothing, glyph, point, first, second, light_of}
use Rattle.wiring.specs.Wiring.{Wire, cathode, not_driven, carries, digit_by, digit_of, partner, place, wire_at}
use Rattle.wiring.specs.declared.Display.{Display}
use Rattle.wiring.specs.declared.Display.TheVariants.{Sixteen, Fourteen, SevenPair}
use Rattle.glyphs.specs.Glyphs.{lit_by}
use Rattle.brightness.specs.Dark.{test_on}
use Rattle.display.specs.Cathode.{display_by, display_of, shown_byte, hex_mode, font_of, segment_on}
use Rattle.display.specs.Pins.{pin_code, wire_pin, pin_at, segments_of}
use Rattle.display.specs.declared.Pin.TheVariants.{NotDriven, Cathode, Lit, Unlit, NoSegment}
use Rattle.display.specs.OwnCathode.{Alike, OwnCathode}

-- a bit alone is set at its own place
abbrev alone : ℕ → ℕ → Bool
alone c d = Bool·beq (bit d (2 ^ c)) (eqb c d)

one_bit_lem : (c d : ℕ) → c < 8 → d < 8 → bit d (2 ^ c) ≡ eqb c d
one_bit_lem c d hc hd = same _ _ (all_at (alone c) 8 (all_at (λ k. all (alone k) 8) 8 refl c hc) d hd)

-- and 0 has none
no_bit : (d : ℕ) → d < 8 → bit d 0 ≡ false
no_bit d h = same _ _ (all_at (λ k. Bool·beq (bit k 0) false) 8 refl d h)

module _ (c d : ℕ) (hc : c < 8) (hd : d < 8) where
  digit_type : display_by (2 ^ c) 0 d ≡ if (eqb c d) Fourteen Sixteen
  digit_type = ap (λ t. if t Fourteen (if (bit d 0) SevenPair Sixteen)) (one_bit_lem c d hc hd) ∙ ap (λ f. if (eqb c d) Fourteen (if f SevenPair Sixteen)) (no_bit d hd)

  fitted_type : display_by (2 ^ c) (2 ^ c) d ≡ if (eqb c d) Fourteen Sixteen
  fitted_type = ap (λ t. if t Fourteen (if t SevenPair Sixteen)) (one_bit_lem c d hc hd) ∙ go (eqb c d)
    where
      go : (b : Bool) → if b Fourteen (if b SevenPair Sixteen) ≡ if b Fourteen Sixteen
      go true = refl
      go false = refl

  fitted_pair : display_by 0 (2 ^ c) d ≡ if (eqb c d) SevenPair Sixteen
  fitted_pair = ap (λ t. if t Fourteen (if (bit d (2 ^ c)) SevenPair Sixteen)) (no_bit d hd) ∙ ap (λ f. if f SevenPair Sixteen) (one_bit_lem c d hc hd)

decode_mode : (x : Device) (c d : ℕ) → c < 8 → d < 8 → x.registers.controls.decode ≡ 2 ^ c → hex_mode x d ≡ eqb c d
decode_mode x c d hc hd e = ap (bit d) e ∙ one_bit_lem c d hc hd

-- the digit whose byte lights what a pin carries
abbrev wire_digit : ℕ → Wire → ℕ
wire_digit d cathode = d
wire_digit d not_driven = d
wire_digit d (carries s) = digit_of d s

-- a segment of digit d, not of da
abbrev own : Light → Bool
own nothing = true
own (glyph n) = true
own point = true
own (first n) = true
own (second n) = false

own_digit : (d : ℕ) (l : Light) → own l ≡ true → digit_by d l ≡ d
own_digit d nothing e = refl
own_digit d (glyph n) e = refl
own_digit d point e = refl
own_digit d (first n) e = refl
own_digit d (second n) e = cc

abbrev all_own : List Segment → Bool
all_own [] = true
all_own (s ∷ ss) = own (light_of s) && all_own ss

each_own : (l : List Segment) → all_own l ≡ true → (i : ℕ) → own (light_of (get_or l i none)) ≡ true
each_own [] e i = refl
each_own (s ∷ ss) e zero = and_left (own (light_of s)) (all_own ss) e
each_own (s ∷ ss) e (suc i) = each_own ss (and_right (own (light_of s)) (all_own ss) e) i

wire_own : (k : Display) (d p : ℕ) → all_own (list_of k) ≡ true → wire_digit d (wire_at k d p) ≡ d
wire_own k d p e = go (ltb d 8) (ltb p 19) (eqb p d) (eqb p (partner d))
  where
    s : Segment
    s = get_or (list_of k) (place d p) none

    go : (a b c f : Bool) → wire_digit d (if a (if b (if c cathode (if f not_driven (carries s))) not_driven) not_driven) ≡ d
    go true true true f = refl
    go true true false true = refl
    go true true false false = own_digit d (light_of s) (each_own (list_of k) e (place d p))
    go true false c f = refl
    go false b c f = refl

module _ (x y : Device) (d : ℕ) (font14 font16 : List ℕ) (a : Alike x y d) where
  same_display : display_of x d ≡ display_of y d
  same_display = rw (a.types, a.fitted)

  same_segment : display_of x d ≡ display_of y d → (s : Segment) → shown_byte x (digit_of d s) ≡ shown_byte y (digit_of d s) → segment_on x d font14 font16 s ≡ segment_on y d font14 font16 s
  same_segment f s e =
      ap (λ t. shown t (hex_mode x d) (display_of x d) (shown_byte x (digit_of d s))) a.test
      ∙ ap (λ h. shown (test_on y) h (display_of x d) (shown_byte x (digit_of d s))) a.decode
      ∙ ap (λ k. shown (test_on y) (hex_mode y d) k (shown_byte x (digit_of d s))) f
      ∙ ap (shown (test_on y) (hex_mode y d) (display_of y d)) e
    where
      shown : Bool → Bool → Display → ℕ → Bool
      shown t h k v = t || lit_by h (font_of k font14 font16) v s

  same_wire : (w : Wire) → shown_byte x (wire_digit d w) ≡ shown_byte y (wire_digit d w) → wire_pin x d font14 font16 w ≡ wire_pin y d font14 font16 w
  same_wire cathode e = rw a.darkness
  same_wire not_driven e = rw a.darkness
  same_wire (carries s) e = rw (a.darkness, same_segment same_display s e)

  same_pin : (p : ℕ) → shown_byte x (wire_digit d (wire_at (display_of x d) d p)) ≡ shown_byte y (wire_digit d (wire_at (display_of x d) d p))
      → pin_at x d font14 font16 p ≡ pin_at y d font14 font16 p
  same_pin p e = same_wire (wire_at (display_of x d) d p) e ∙ ap (λ k. wire_pin y d font14 font16 (wire_at k d p)) same_display

  either_digit : (w : Wire) → shown_byte x (d + 8) ≡ shown_byte y (d + 8) → shown_byte x (wire_digit d w) ≡ shown_byte y (wire_digit d w)
  either_digit cathode e = a.byte
  either_digit not_driven e = a.byte
  either_digit (carries s) e = go (light_of s)
    where
      go : (l : Light) → shown_byte x (digit_by d l) ≡ shown_byte y (digit_by d l)
      go nothing = a.byte
      go (glyph n) = a.byte
      go point = a.byte
      go (first n) = a.byte
      go (second n) = e

  other_pins : (p : ℕ) → display_of x d ≢ SevenPair → pin_at x d font14 font16 p ≡ pin_at y d font14 font16 p
  other_pins p n = same_pin p (go (display_of x d) refl)
    where
      of_d : (w : Wire) → wire_digit d w ≡ d → shown_byte x (wire_digit d w) ≡ shown_byte y (wire_digit d w)
      of_d w e = rw e a.byte

      go : (k : Display) → display_of x d ≡ k → shown_byte x (wire_digit d (wire_at k d p)) ≡ shown_byte y (wire_digit d (wire_at k d p))
      go Sixteen e = of_d (wire_at Sixteen d p) (wire_own Sixteen d p refl)
      go Fourteen e = of_d (wire_at Fourteen d p) (wire_own Fourteen d p refl)
      go SevenPair e = absurd (n e)

own_byte : (x : Device) (i : ℕ) → shown_byte x i ≡ data_of x.registers (Digit (shown_plane x) i)
own_byte x i = refl

module _ (x : Device) (d : ℕ) (font14 font16 : List ℕ) where
  answered : (p : ℕ) → segments_refusal d font14 font16 ≡ 0 → p < 19 → get_or (segments_of x d font14 font16).pins p 0 ≡ pin_code (pin_at x d font14 font16 p)
  answered p e h =
      get_d_tabulate 19 (λ q. pin_code (if (eqb (segments_refusal d font14 font16) 0) (pin_at x d font14 font16 q) NotDriven)) 0 p h
      ∙ ap (λ n. pin_code (if (eqb n 0) (pin_at x d font14 font16 p) NotDriven)) e

  refused : segments_refusal d font14 font16 ≡ 6 → segments_of x d font14 font16 ≡ record { number = 6; pins = replicate 19 0 }
  unfolding tabulate
  refused e = rw e

numbers : map pin_code (NotDriven ∷ Cathode ∷ Lit ∷ Unlit ∷ NoSegment ∷ []) ≡ 0 ∷ 1 ∷ 2 ∷ 3 ∷ 4 ∷ []
numbers = refl

pub own_cathode : OwnCathode
own_cathode =
    record {
      digit_type = digit_type;
      fitted_type = fitted_type;
      fitted_pair = fitted_pair;
      decode_mode = decode_mode;
      own_byte = own_byte;
      pair_pins = λ x y d p font14 font16 a e. same_pin x y d font14 font16 a p (either_digit x y d font14 font16 a (wire_at (display_of x d) d p) e);
      other_pins = λ x y d p font14 font16 a. other_pins x y d font14 font16 a p;
      answered = λ x d p font14 font16. answered x d font14 font16 p;
      refused = refused;
      numbers = numbers;
    }
