-- The test by two masks is the test for a stop: by a word's two bytes, at every high byte and digit.
-- Assumes nothing.
use Rattle.ground.proofs.Names.{ℕ, ◌+◌, ◌*◌, ◌/◌, ◌%◌, ◌<◌, arith, Bool, true, false, not, ◌&&◌, ◌||◌, Bool·beq, List, ◌≡◌, refl, sym, ap, ap₂, ◌∙◌, bit_and, and_block, and_le_r, and_zero_r, eqb, get_or, eqb-true, eqb-false, eq-eqb, ne_eqb, bit, all, all_at, high_bit, low_bit, same}
use Rattle.words.specs.declared.Plane.{Plane}
use Rattle.words.specs.declared.Plane.TheVariants.{P0, P1}
use Rattle.look_back.specs.Stops.{first_address, writes_to, writes_byte, clears_planes, stops, last_place, stopping_place}
use Rattle.stopping_word.specs.Masks.{mask_of, pattern_of, stops_under}
use Rattle.look_back.proofs.PlaceLaws.{place_ext}

-- numbers of two bytes are equal where both bytes are
two_bytes_lem : (x y a b : ℕ) → y < 256 → b < 256 → eqb (x * 256 + y) (a * 256 + b) ≡ (eqb x a && eqb y b)
two_bytes_lem x y a b p q = go (eqb x a) refl (eqb y b) refl
  where
    go : (s : Bool) → eqb x a ≡ s → (t : Bool) → eqb y b ≡ t → eqb (x * 256 + y) (a * 256 + b) ≡ (s && t)
    go true e true g = let u = eqb-true x a e in let v = eqb-true y b g in eq-eqb (x * 256 + y) (a * 256 + b) (rw (u, v))
    go true e false g = ne_eqb (x * 256 + y) (a * 256 + b) (λ (z : x * 256 + y ≡ a * 256 + b). eqb-false y b g (omega (arith, z, p, q)))
    go false e t g = ne_eqb (x * 256 + y) (a * 256 + b) (λ (z : x * 256 + y ≡ a * 256 + b). eqb-false x a e (omega (arith, z, p, q)))

-- a masked word against a number, byte by byte
masked : (w mh ml a b : ℕ) → ml < 256 → b < 256 → eqb (bit_and w (mh * 256 + ml)) (a * 256 + b) ≡ (eqb (bit_and (w / 256) mh) a && eqb (bit_and (w % 256) ml) b)
masked w mh ml a b p q =
    let e : w ≡ w / 256 * 256 + w % 256 = omega arith in
    let g : bit_and w (mh * 256 + ml) ≡ bit_and (w / 256) mh * 256 + bit_and (w % 256) ml = ap (λ (x : ℕ). bit_and x (mh * 256 + ml)) e ∙ and_block 8 (w / 256) mh (w % 256) ml (omega arith) p in
    ap (λ (x : ℕ). eqb x (a * 256 + b)) g
    ∙ two_bytes_lem (bit_and (w / 256) mh) (bit_and (w % 256) ml) a b (omega (arith, and_le_r (w % 256) ml)) q

-- a mask without low bits leaves the high byte's test
low_none : (b : Bool) (v : ℕ) → (b && eqb (bit_and v 0) 0) ≡ b
low_none true v = rw (and_zero_r v)
low_none false v = refl

-- the high byte of the mask of a plane
abbrev high_mask : Plane → ℕ
high_mask P0 = 0xBF
high_mask P1 = 0xDF

-- a high byte writes to an address
abbrev writes_high : ℕ → ℕ → Bool
writes_high a h = not (bit 7 h) && eqb (h % 128) a

high_writes : (a w : ℕ) → writes_to a w ≡ writes_high a (w / 256)
high_writes a w = rw (high_bit 8 7 w)

-- what is computed, of a high byte and a digit
abbrev digit_right : Plane → ℕ → ℕ → Bool
digit_right p h i = Bool·beq (eqb (bit_and h (high_mask p)) (first_address p + i)) (writes_high (first_address p + i) h || writes_high (0x60 + i) h)

digit_right_lem : (p : Plane) (h i : ℕ) → h < 256 → i < 16 → eqb (bit_and h (high_mask p)) (first_address p + i) ≡ (writes_high (first_address p + i) h || writes_high (0x60 + i) h)
digit_right_lem P0 h i l k = same _ _ (all_at (digit_right P0 h) 16 (all_at (λ h. all (digit_right P0 h) 16) 256 refl h l) i k)
digit_right_lem P1 h i l k = same _ _ (all_at (digit_right P1 h) 16 (all_at (λ h. all (digit_right P1 h) 16) 256 refl h l) i k)

clear_high : (h : ℕ) → h < 256 → eqb (bit_and h 0xFF) 4 ≡ writes_high 4 h
clear_high h l = same _ _ (all_at (λ h. Bool·beq (eqb (bit_and h 0xFF) 4) (writes_high 4 h)) 256 refl h l)

clear_low : (v : ℕ) → v < 256 → eqb (bit_and v 0x20) 0x20 ≡ bit 5 v
clear_low v l = same _ _ (all_at (λ v. Bool·beq (eqb (bit_and v 0x20) 0x20) (bit 5 v)) 256 refl v l)

mask_high : (p : Plane) → mask_of p ≡ high_mask p * 256 + 0
mask_high P0 = refl
mask_high P1 = refl

module _ (w : ℕ) (fits : w < 65536) where
  digit_test : (p : Plane) (i : ℕ) → i < 16 → eqb (bit_and w (mask_of p)) (pattern_of p i) ≡ writes_byte p i w
  digit_test p i l =
      let e : pattern_of p i ≡ (first_address p + i) * 256 + 0 = omega arith in
      rw (mask_high p, e) (
      masked w (high_mask p) 0 (first_address p + i) 0 (omega arith) (omega arith)
      ∙ low_none (eqb (bit_and (w / 256) (high_mask p)) (first_address p + i)) (w % 256)
      ∙ digit_right_lem p (w / 256) i (omega arith) l
      ∙ sym (ap₂ ◌||◌ (high_writes (first_address p + i) w) (high_writes (0x60 + i) w)))

  clear_test : eqb (bit_and w 0xFF20) 0x0420 ≡ clears_planes w
  clear_test =
      masked w 0xFF 0x20 4 0x20 (omega arith) (omega arith)
      ∙ ap₂ ◌&&◌ (clear_high (w / 256) (omega arith) ∙ sym (high_writes 4 w)) (clear_low (w % 256) (omega arith) ∙ low_bit 8 5 w (omega arith))

  -- the masks find what stops
  pub masks_stop : (p : Plane) (i : ℕ) → i < 16 → stops_under (mask_of p) (pattern_of p i) w ≡ stops p i w
  masks_stop p i l = ap₂ ◌||◌ (digit_test p i l) clear_test

-- so the place that they find in a list of words is the stopping place
pub masks_place : (p : Plane) (i : ℕ) (ws : List ℕ) → i < 16 → ((k : ℕ) → get_or ws k 0 < 65536) → (n mask pattern : ℕ)
    → mask ≡ mask_of p → pattern ≡ pattern_of p i → n ≡ last_place (stops_under mask pattern) ws → n ≡ stopping_place p i ws
masks_place p i ws l fits n mask pattern e g h =
    h ∙ rw (e, g) (place_ext (stops_under (mask_of p) (pattern_of p i)) (stops p i) ws (λ k _. masks_stop (get_or ws k 0) (fits k) p i l))
