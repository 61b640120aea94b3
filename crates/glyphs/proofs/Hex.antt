-- The segments of a hex digit are those of Table 11, none where it is blank, by one computed test over all bytes.
-- Assumes nothing.
use Rattle.ground.proofs.Names.{ℕ, ◌+◌, ◌%◌, ◌<◌, arith, Bool, true, false, Bool·beq, ◌≡◌, refl, eqb, ltb, get_or, eqb-true, ltb-true, if, bit, all, all_at, same, if_small}
use Rattle.wiring.specs.PackedRows.{byte_of, packed}
use Rattle.glyphs.specs.Glyphs.{seven_lit}
use Rattle.glyphs.specs.Masks.{hex_font, hex_segments, seven_segments}

-- the word of the font that has character k, and in it the character's byte
abbrev pub word : ℕ → ℕ
word k = if (ltb k 8) (packed 8 (λ i. get_or hex_font i 0)) (packed 8 (λ i. get_or hex_font (8 + i) 0))

pub hex_byte_lem : (k w : ℕ) → k < 16 → w ≡ word k → byte_of w (k % 8) ≡ get_or hex_font k 0
hex_byte_lem k w h e = rw e (eqb-true _ _ (all_at (λ c. eqb (byte_of (word c) (c % 8)) (get_or hex_font c 0)) 16 refl k h))

-- a character's segments a to g are seven bits
pub hex_segments_small : (v : ℕ) → hex_segments v < 128
hex_segments_small v =
    let small = all_at (λ k. ltb (get_or hex_font k 0) 128) 16 refl (v % 16) (omega arith) in
    ltb-true _ _ (if_small (eqb (v % 128) 16) 0 (get_or hex_font (v % 16) 0) 128 refl small)

-- the segments of a 7-segment digit are eight bits
pub seven_small : (hex : Bool) (v : ℕ) → v < 256 → seven_segments hex v < 256
seven_small true v h = omega (arith, hex_segments_small v)
seven_small false v h = h

abbrev right : ℕ → ℕ → Bool
right v n = Bool·beq (bit n (seven_segments true v)) (seven_lit true v n)

-- bit n of them is segment Dn
pub seven_lit_lem : (hex : Bool) (v n : ℕ) → v < 256 → n < 8 → bit n (seven_segments hex v) ≡ seven_lit hex v n
seven_lit_lem true v n hv hn = same _ _ (all_at (right v) 8 (all_at (λ u. all (right u) 8) 256 refl v hv) n hn)
seven_lit_lem false v n hv hn = refl
