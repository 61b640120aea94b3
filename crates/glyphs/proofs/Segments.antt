-- Each segment of a display's list is its bit of the lit segments.
-- Assumes nothing.
use Rattle.ground.proofs.Names.{ℕ, ◌+◌, ◌*◌, ◌/◌, ◌%◌, ◌^◌, ◌<◌, arith, Bool, true, false, not, ◌&&◌, List, ◌≡◌, refl, ap, sym, ◌∙◌, ltb, get_or, ltb-true, bit, all_at, low_bit, high_bit}
use Rattle.wiring.specs.Segments.{none, sixteen, fourteen, pair, Light, nothing, glyph, point, first, second, light_of}
use Rattle.wiring.specs.Wiring.{digit_by}
use Rattle.wiring.specs.Table.{light_entry}
use Rattle.wiring.specs.declared.Display.TheVariants.{Sixteen, Fourteen, SevenPair}
use Rattle.glyphs.specs.Glyphs.{light_on}
use Rattle.glyphs.specs.Masks.{seven_segments, pair_segments, glyph_segments, SegmentBySegment}
use Rattle.glyphs.proofs.Hex.{seven_small, seven_lit_lem}

-- a bit below w of x * 2 ^ w + y, and one from w on
below : (w k x y : ℕ) → k < w → (x * 2 ^ w + y) % 2 ^ w ≡ y → bit k (x * 2 ^ w + y) ≡ bit k y
below w k x y h e = sym (low_bit w k (x * 2 ^ w + y) h) ∙ ap (bit k) e

above : (w k x y : ℕ) → (x * 2 ^ w + y) / 2 ^ w ≡ x → bit (k + w) (x * 2 ^ w + y) ≡ bit k x
above w k x y e = high_bit w k (x * 2 ^ w + y) ∙ ap (bit k) e

-- the lit segments of a cathode have no bit 17
none_above : (x : ℕ) → x / 2 ^ 17 ≡ 0 → bit 17 x ≡ false
none_above x e = high_bit 17 0 x ∙ ap (bit 0) e

-- what lights a segment of a 7-segment pair, or of a 14- or 16-segment digit
abbrev light : Bool → Light → Bool
light pair nothing = true
light pair (glyph n) = not pair && ltb n 16
light pair point = not pair
light pair (first n) = pair && ltb n 8
light pair (second n) = pair && ltb n 8

module _ (hex : Bool) (font : List ℕ) (byte : ℕ → ℕ) (d : ℕ) (hd : byte d < 256) (ha : byte (d + 8) < 256) (words : (i : ℕ) → get_or font i 0 < 65536) where
  abbrev lit : Light → Bool
  lit l = light_on hex font (byte (digit_by d l)) l

  abbrev word : ℕ
  word = get_or font (byte d % 128) 0

  of_glyph : (l : Light) → light false l ≡ true → bit (light_entry l) (glyph_segments font (byte d)) ≡ lit l
  of_glyph nothing e = none_above (byte d / 128 * 65536 + word) (omega (arith, words (byte d % 128), hd))
  of_glyph (glyph n) e = below 16 n (byte d / 128) word (ltb-true n 16 e) (omega (arith, words (byte d % 128)))
  of_glyph point e = above 16 0 (byte d / 128) word (omega (arith, words (byte d % 128))) ∙ sym (high_bit 7 0 (byte d))
  of_glyph (first n) e = cc
  of_glyph (second n) e = cc

  abbrev seven : ℕ → ℕ
  seven i = seven_segments hex (byte i)

  small : seven d < 256
  small = seven_small hex (byte d) hd

  of_pair : (l : Light) → light true l ≡ true → bit (light_entry l) (pair_segments hex (byte d) (byte (d + 8))) ≡ lit l
  of_pair nothing e = none_above (seven (d + 8) * 256 + seven d) (omega (arith, small, seven_small hex (byte (d + 8)) ha))
  of_pair (glyph n) e = cc
  of_pair point e = cc
  of_pair (first n) e =
      below 8 n (seven (d + 8)) (seven d) (ltb-true n 8 e) (omega (arith, small)) ∙ seven_lit_lem hex (byte d) n hd (ltb-true n 8 e)
  of_pair (second n) e =
      above 8 n (seven (d + 8)) (seven d) (omega (arith, small)) ∙ seven_lit_lem hex (byte (d + 8)) n ha (ltb-true n 8 e)

pub segment_by_segment : SegmentBySegment
segment_by_segment Sixteen hex font byte d r hd ha words h =
    of_glyph hex font byte d hd ha words (light_of (get_or sixteen r none)) (all_at (λ q. light false (light_of (get_or sixteen q none))) 17 refl r h)
segment_by_segment Fourteen hex font byte d r hd ha words h =
    of_glyph hex font byte d hd ha words (light_of (get_or fourteen r none)) (all_at (λ q. light false (light_of (get_or fourteen q none))) 17 refl r h)
segment_by_segment SevenPair hex font byte d r hd ha words h =
    of_pair hex font byte d hd ha words (light_of (get_or pair r none)) (all_at (λ q. light true (light_of (get_or pair q none))) 17 refl r h)
