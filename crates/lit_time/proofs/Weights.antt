-- What a cathode shows at one clock, by its lit segments as one number.
-- Assumes nothing.
use Rattle.ground.proofs.Names.{ℕ, suc, ◌+◌, ◌*◌, ◌%◌, ◌^◌, ◌<◌, ◌≤◌, arith, Bool, true, false, not, ◌&&◌, ◌||◌, List, [], ◌∷◌, ◌≡◌, refl, sym, ◌∙◌, eqb, ltb, length, get_or, ltb-true, if, bit, all, all_at}
use Rattle.words.specs.declared.Plane.{Plane}
use Rattle.device.specs.declared.Device.{Device}
use Rattle.wiring.specs.Segments.{Segment, none, list_of, Light, nothing, glyph, point, first, second, light_of, is_segment}
use Rattle.wiring.specs.Wiring.{digit_by, digit_of}
use Rattle.wiring.specs.Table.{segment_entry}
use Rattle.wiring.specs.declared.Display.{Display}
use Rattle.wiring.specs.declared.Display.TheVariants.{Sixteen, Fourteen, SevenPair}
use Rattle.glyphs.specs.Glyphs.{lit_by}
use Rattle.glyphs.specs.Masks.{segments_by}
use Rattle.glyphs.proofs.Segments.{segment_by_segment}
use Rattle.brightness.specs.Dark.{test_on, dark}
use Rattle.brightness.specs.Brightness.{nibble_of, sixteenths, cathode_of, brightness_of}
use Rattle.display.specs.Cathode.{display_of, hex_mode, font_of}
use Rattle.display.specs.Pins.{pin_code, lit}
use Rattle.display.specs.ByTable.{all_segments, shown_segments}
use Rattle.display.specs.declared.Pin.TheVariants.{NotDriven, Lit, Unlit, NoSegment}
use Rattle.lit_time.specs.LitTime.{sum_of, segment_time, cathode_time}
use Rattle.lit_time.specs.Closed.{byte_in, on_in, segment_in, time_in, first_mask, second_mask, weight_by, weight_in, Typed}
use Rattle.lit_time.proofs.Ones.{times_at, times_scaled, masked}

sum_ext : (f g : Segment → ℕ) (ss : List Segment) → ((r : ℕ) → r < length ss → f (get_or ss r none) ≡ g (get_or ss r none)) → sum_of f ss ≡ sum_of g ss
sum_ext f g [] h = refl
sum_ext f g (s ∷ ss) h = rw (h 0 (omega arith), sum_ext f g ss (λ r l. h (suc r) (omega arith)))

seventeen : (k : Display) → length (list_of k) ≡ 17
seventeen Sixteen = refl
seventeen Fourteen = refl
seventeen SevenPair = refl

-- the digits of a cathode are on it
own_cathode : (d : ℕ) (l : Light) → d < 8 → digit_by d l % 8 ≡ d
own_cathode d nothing h = omega arith
own_cathode d (glyph n) h = omega arith
own_cathode d point h = omega arith
own_cathode d (first n) h = omega arith
own_cathode d (second n) h = omega arith

dark_none : (x : Device) (i d : ℕ) → cathode_of i ≡ d → dark x d ≡ true → brightness_of x i ≡ 0
dark_none x i d e h = rw (e, h)

-- a pin's time by whether its cathode is dark, what it carries and whether that is on
pin_time : (black seg on : Bool) (v : ℕ) → (black ≡ true → v ≡ 0) → if (eqb (pin_code (if black NotDriven (if seg (if on Lit Unlit) NoSegment))) 2) v 0 ≡ if seg (if on v 0) 0
pin_time true true true v h = sym (h refl)
pin_time true true false v h = refl
pin_time true false on v h = refl
pin_time false true true v h = refl
pin_time false true false v h = refl
pin_time false false on v h = refl

-- every segment of a display has a bit of those that display test lights
tested : (k : Display) → all (λ r. not (is_segment (get_or (list_of k) r none)) || bit (segment_entry (get_or (list_of k) r none)) all_segments) 17 ≡ true
tested Sixteen = refl
tested Fourteen = refl
tested SevenPair = refl

or_says : (a b : Bool) → (not a || b) ≡ true → (v : ℕ) → if a (if true v 0) 0 ≡ if a (if b v 0) 0
or_says true true h v = refl
or_says true false h v = cc
or_says false b h v = refl

-- the list of a display, by the bits of its segments
by_masks : (k : Display) (on : ℕ → Bool) (bright : ℕ → ℕ) (d : ℕ)
    → sum_of (λ s. if (is_segment s) (if (on (segment_entry s)) (bright (digit_of d s)) 0) 0) (list_of k)
    ≡ times_at 17 0 (λ i. bit i (first_mask k) && on i) (bright d) + times_at 17 0 (λ i. bit i (second_mask k) && on i) (bright (d + 8))
by_masks Sixteen on bright d = omega arith
by_masks Fourteen on bright d = omega arith
by_masks SevenPair on bright d = omega arith

small_masks : (k : Display) → (first_mask k < 2 ^ 17) × (second_mask k < 2 ^ 17)
small_masks Sixteen = omega arith
small_masks Fourteen = omega arith
small_masks SevenPair = omega arith

weighed : (k : Display) (n b a : ℕ) → times_at 17 0 (λ i. bit i (first_mask k) && bit i n) b + times_at 17 0 (λ i. bit i (second_mask k) && bit i n) a ≡ weight_by k n b a
weighed k n b a =
    rw (
      times_scaled 17 0 (λ i. bit i (first_mask k) && bit i n) b,
      times_scaled 17 0 (λ i. bit i (second_mask k) && bit i n) a,
      ← masked (first_mask k) n (small_masks k).0,
      ← masked (second_mask k) n (small_masks k).1,
    )

module _ (x : Device) (p : Plane) (d : ℕ) (font14 font16 : List ℕ) (t : Typed x d font14 font16) where
  abbrev k : Display
  k = display_of x d

  abbrev lights : ℕ
  lights = shown_segments (test_on x) k (hex_mode x d) font14 font16 (byte_in x p d) (byte_in x p (d + 8))

  font_words : (k : Display) (i : ℕ) → get_or (font_of k font14 font16) i 0 < 65536
  font_words Sixteen = t.words16
  font_words Fourteen = t.words14
  font_words SevenPair = t.words16

  -- a segment of its list, by its bit
  on_time : (test : Bool) (r v : ℕ) → r < 17
      → if (is_segment (get_or (list_of k) r none)) (if (test || lit_by (hex_mode x d) (font_of k font14 font16) (byte_in x p (digit_of d (get_or (list_of k) r none))) (get_or (list_of k) r none)) v 0) 0
      ≡ if (is_segment (get_or (list_of k) r none)) (if (bit (segment_entry (get_or (list_of k) r none)) (if test all_segments (segments_by k (hex_mode x d) (font_of k font14 font16) (byte_in x p d) (byte_in x p (d + 8))))) v 0) 0
  on_time true r v h = or_says (is_segment (get_or (list_of k) r none)) (bit (segment_entry (get_or (list_of k) r none)) all_segments) (all_at (λ q. not (is_segment (get_or (list_of k) q none)) || bit (segment_entry (get_or (list_of k) q none)) all_segments) 17 (tested k) r h) v
  on_time false r v h = rw (segment_by_segment k (hex_mode x d) (font_of k font14 font16) (byte_in x p) d r (t.byte p) (t.byte_a p) (font_words k) h)

  segment_time_lem : (r : ℕ) → r < 17
      → segment_in x p d font14 font16 (get_or (list_of k) r none)
      ≡ if (is_segment (get_or (list_of k) r none)) (if (bit (segment_entry (get_or (list_of k) r none)) lights) (brightness_of x (digit_of d (get_or (list_of k) r none))) 0) 0
  segment_time_lem r h =
      let s = get_or (list_of k) r none in
      let v = brightness_of x (digit_of d s) in
      pin_time (dark x d) (is_segment s) (on_in x p d font14 font16 s) v (dark_none x (digit_of d s) d (own_cathode d (light_of s) t.cathode))
      ∙ on_time (test_on x) r v h

  pub by_weight : time_in x p d font14 font16 ≡ weight_in x p d font14 font16
  by_weight =
      sum_ext (segment_in x p d font14 font16) (λ s. if (is_segment s) (if (bit (segment_entry s) lights) (brightness_of x (digit_of d s)) 0) 0) (list_of k)
      (λ r l. segment_time_lem r (rw (seventeen k) at l))
      ∙ by_masks k (λ i. bit i lights) (brightness_of x) d
      ∙ weighed k lights (brightness_of x d) (brightness_of x (d + 8))

-- at most 15 sixteenths
sixteenths_most : (v : ℕ) → sixteenths v ≤ 15
sixteenths_most v = go (ltb (v + 1) 15) refl
  where
    go : (b : Bool) → ltb (v + 1) 15 ≡ b → if b (v + 1) 15 ≤ 15
    go true e = omega (arith, ltb-true (v + 1) 15 e)
    go false e = omega arith

pub if_most : (b : Bool) (m n k : ℕ) → m ≤ k → n ≤ k → if b m n ≤ k
if_most true m n k h g = h
if_most false m n k h g = g

pub bright_most : (x : Device) (i : ℕ) → brightness_of x i ≤ 15
bright_most x i = if_most (dark x (cathode_of i)) 0 _ 15 (omega arith) (if_most (test_on x) 7 _ 15 (omega arith) (sixteenths_most (nibble_of x i)))

sum_most : (f : Segment → ℕ) (ss : List Segment) → ((s : Segment) → f s ≤ 15) → sum_of f ss ≤ 15 * length ss
sum_most f [] h = omega arith
sum_most f (s ∷ ss) h = omega (arith, h s, sum_most f ss h)

-- a clock adds at most 17 segments at 15 sixteenths
pub clock_most : (x : Device) (d : ℕ) (font14 font16 : List ℕ) → cathode_time x d font14 font16 ≤ 255
clock_most x d font14 font16 =
    omega (arith, sum_most (segment_time x d font14 font16) (list_of (display_of x d)) (λ s. if_most (lit x d font14 font16 s) _ 0 15 (bright_most x (digit_of d s)) (omega arith)), seventeen (display_of x d))
