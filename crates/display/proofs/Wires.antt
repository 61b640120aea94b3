-- A pin by its entry of the wiring table is the pin that the rule gives.
-- Assumes nothing.
use Rattle.ground.proofs.Names.{ℕ, ◌+◌, ◌<◌, Bool, true, false, not, ◌||◌, List, ◌≡◌, refl, eqb, ltb, get_or, lt-ltb, ltb-true, if, bit, all, all_at}
use Rattle.device.specs.declared.Device.{Device}
use Rattle.wiring.specs.Segments.{Segment, none, list_of, Light, nothing, glyph, point, first, second, light_of, is_light}
use Rattle.wiring.specs.Wiring.{cathode, not_driven, carries, digit_of, partner, place, rule_at}
use Rattle.wiring.specs.Table.{light_entry, segment_entry, wire_entry}
use Rattle.wiring.specs.declared.Display.{Display}
use Rattle.wiring.specs.declared.Display.TheVariants.{Sixteen, Fourteen, SevenPair}
use Rattle.wiring.proofs.Wired.{wired}
use Rattle.glyphs.specs.Glyphs.{lit_by}
use Rattle.glyphs.specs.Masks.{segments_by}
use Rattle.glyphs.proofs.Segments.{segment_by_segment}
use Rattle.brightness.specs.Dark.{test_on, dark}
use Rattle.display.specs.Cathode.{display_of, shown_byte, hex_mode, font_of, segment_on}
use Rattle.display.specs.Pins.{pin_of, pin_at}
use Rattle.display.specs.declared.Pin.{Pin}
use Rattle.display.specs.declared.Pin.TheVariants.{NotDriven, Lit, Unlit, NoSegment}
use Rattle.display.specs.ByTable.{all_segments, lit_segments, pin_by, PinByPin}

-- what lights a segment has the number of a bit
abbrev numbered : Light → Bool
numbered l = not (is_light l) || ltb (light_entry l) 17

-- a pin's place is one of the list's
place_lt : (d p : ℕ) → d < 8 → p < 19 → place d p < 17
place_lt d p hd hp =
    ltb-true _ _ (all_at (λ q. ltb (place d q) 17) 19 (all_at (λ c. all (λ q. ltb (place c q) 17) 19) 8 refl d hd) p hp)

-- a pin that carries a segment is lit where the segment's bit is set, as all are in display test
bit_pin : (t : Bool) (n segments : ℕ) (on : Bool) → ltb n 17 ≡ true → bit n segments ≡ on → pin_by (if t all_segments segments) n ≡ if (t || on) Lit Unlit
bit_pin true n segments on h e = rw (h, all_at (λ k. bit k all_segments) 17 refl n (ltb-true n 17 h))
bit_pin false n segments on h e = rw (h, e)

-- the segments of a list are numbered
listed : (k : Display) → all (λ r. numbered (light_of (get_or (list_of k) r none))) 17 ≡ true
listed Sixteen = refl
listed Fourteen = refl
listed SevenPair = refl

module _ (t : Bool) (segments : ℕ) where
  shown : (l : Light) (on : Bool) → numbered l ≡ true → bit (light_entry l) segments ≡ on → pin_by (if t all_segments segments) (light_entry l) ≡ if (is_light l) (if (t || on) Lit Unlit) NoSegment
  shown nothing on h e = refl
  shown (glyph n) on h e = bit_pin t n segments on h e
  shown point on h e = bit_pin t 16 segments on h e
  shown (first n) on h e = bit_pin t n segments on h e
  shown (second n) on h e = bit_pin t (n + 8) segments on h e

  -- the cathode and its partner carry no segment
  wired_pin : (on : Segment → Bool) (b c : Bool) (s : Segment) → numbered (light_of s) ≡ true → bit (segment_entry s) segments ≡ on s
      → pin_by (if t all_segments segments) (wire_entry (if b cathode (if c not_driven (carries s)))) ≡ pin_of (λ q. t || on q) (if b cathode (if c not_driven (carries s)))
  wired_pin on true c s h e = refl
  wired_pin on false true s h e = refl
  wired_pin on false false s h e = shown (light_of s) (on s) h e

font_words : (k : Display) (font14 font16 : List ℕ) → ((i : ℕ) → get_or font14 i 0 < 65536) → ((i : ℕ) → get_or font16 i 0 < 65536) → (i : ℕ) → get_or (font_of k font14 font16) i 0 < 65536
font_words Sixteen font14 font16 h14 h16 = h16
font_words Fourteen font14 font16 h14 h16 = h14
font_words SevenPair font14 font16 h14 h16 = h16

module _ (x : Device) (d : ℕ) (font14 font16 : List ℕ)
    (first_byte : shown_byte x d < 256)
    (second-byte : shown_byte x (d + 8) < 256)
    (words14 : (i : ℕ) → get_or font14 i 0 < 65536)
    (words16 : (i : ℕ) → get_or font16 i 0 < 65536)
    (hd : d < 8) where
  abbrev k : Display
  k = display_of x d

  abbrev font : List ℕ
  font = font_of k font14 font16

  rule_pin : (p : ℕ) → p < 19 → pin_by (lit_segments x d font14 font16) (wire_entry (rule_at k d p)) ≡ pin_of (segment_on x d font14 font16) (rule_at k d p)
  rule_pin p hp =
      let h = place_lt d p hd hp in
      wired_pin
      (test_on x)
      (segments_by k (hex_mode x d) font (shown_byte x d) (shown_byte x (d + 8)))
      (λ s. lit_by (hex_mode x d) font (shown_byte x (digit_of d s)) s)
      (eqb p d)
      (eqb p (partner d))
      (get_or (list_of k) (place d p) none)
      (all_at (λ r. numbered (light_of (get_or (list_of k) r none))) 17 (listed k) (place d p) h)
      (segment_by_segment k (hex_mode x d) font (shown_byte x) d (place d p) first_byte second-byte (font_words k font14 font16 words14 words16) h)

  abbrev by_table : ℕ → Pin
  by_table p = pin_by (lit_segments x d font14 font16) (wire_entry (rule_at k d p))

  pin_at_lem : (p : ℕ) → p < 19 → if (dark x d) NotDriven (by_table p) ≡ pin_at x d font14 font16 p
  pin_at_lem p hp = rw (lt-ltb d 8 hd, lt-ltb p 19 hp, rule_pin p hp)

pub pin_by_pin : PinByPin
pin_by_pin x d font14 font16 p first_byte second-byte words14 words16 hd hp =
    rw (wired.entries (display_of x d) d p hd hp) (pin_at_lem x d font14 font16 first_byte second-byte words14 words16 hd p hp)
