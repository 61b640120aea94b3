-- Rows of bytes by their bits: the spare bits of the last byte, and 16 bits at any bit.
-- Assumes nothing.
use Rattle.ground.proofs.Names.{ℕ, zero, suc, ◌+◌, ◌-◌, ◌*◌, ◌/◌, ◌%◌, ◌^◌, ◌≤◌, ◌<◌, mod-eq_of_lt, add-zero, sub-zero, le_refl, arith, Bool, false, List, [], ◌∷◌, ◌++◌, append_assoc, append-nil, ◌≡◌, sym, ◌∙◌, length, take, drop, get_or, set, replicate, length-append, length-drop, length-replicate, get_or-drop, take-append-drop, field, drop_at, drop-cons, drop-drop, length-take-le, set_split, take_at, take-add, take-append-le, tabulate, tabulate_ext, tabulate_take}
use lib.ListN.{replicate-append-replicate}
use Rattle.refusals.specs.Refusals.{bytes_for}
use Rattle.wire.specs.Bits.{bits, value, unpack, byte_at, pack}
use Rattle.wire.proofs.BitLaws.{length_bits, value_bits, value_take, value_drop, value_append, value_zeros, length_unpack, unpack_append, drop_unpack, front_16}

-- a list's part from n on, cut at n + m
pub drop_take_add : {A : Type 0} (n m : ℕ) (l : List A) → n ≤ length l → drop n (take (n + m) l) ≡ take m (drop n l)
drop_take_add n m l h = rw take-add (drop_at (take n l) _ n (length-take-le n l h))

-- a string cut at m, with zeros after it up to its own length
cut_short : (m k : ℕ) (xs r : List Bool) → length xs ≤ k → take (length xs) (take m (xs ++ r) ++ replicate k false) ≡ take m xs ++ replicate (length xs - m) false
cut_short zero k xs r h =
    let n : ℕ = length xs in
    let e : n + (k - n) ≡ k = omega arith in
    rw (sub-zero, ← e, ← replicate-append-replicate) (take_at (replicate n false) (replicate (k - n) false) n (length-replicate n false))
cut_short (suc m) k [] r h = let z : 0 - suc m ≡ 0 = omega arith in rw z
cut_short (suc m) k (x ∷ xs) r h =
    let e : suc (length xs) - suc m ≡ length xs - m = omega arith in
    rw (e, cut_short m k xs r (omega arith))

-- and its number
padded : (w m : ℕ) (xs r : List Bool) → length xs ≡ w → value (take w (take m (xs ++ r) ++ replicate w false)) ≡ value xs / 2 ^ (w - m) * 2 ^ (w - m)
padded w m xs r e = rw (← e, cut_short m (length xs) xs r (le_refl _), value_zeros, value_take m xs, length-drop)

-- the first c bits of bytes, packed again: whole bytes stay, of the last its spare bits are 0
module _ (l : List ℕ) (c : ℕ) (fits : c ≤ 8 * length l) (small : (k : ℕ) → get_or l k 0 < 256) where
  abbrev first_bits : List Bool
  first_bits = take c (unpack l)

  packed : pack first_bits ≡ tabulate (bytes_for c) (byte_at first_bits)
  unfolding pack
  packed = rw (length-take-le c (unpack l) (rw length_unpack fits))

  kept_byte : (k : ℕ) → k < length l → 8 * k ≤ c → byte_at first_bits k ≡ get_or l k 0 / 2 ^ (8 - (c - 8 * k)) * 2 ^ (8 - (c - 8 * k))
  unfolding byte_at unpack
  kept_byte k h g =
      let e : 8 * k + (c - 8 * k) ≡ c = omega arith in
      let d = rw e at (drop_take_add (8 * k) (c - 8 * k) (unpack l) (rw length_unpack (omega arith))) in
      rw (d, drop_unpack k l, drop-cons l k 0, padded 8 (c - 8 * k) (bits 8 (get_or l k 0)) _ (length_bits 8 _), value_bits, mod-eq_of_lt (small k))

  whole_bytes : tabulate (c / 8) (byte_at first_bits) ≡ take (c / 8) l
  whole_bytes =
      tabulate_ext (c / 8) _ _ (λ k h. let z : 8 - (c - 8 * k) ≡ 0 = omega arith in kept_byte k (omega arith) (omega arith) ∙ rw z (omega arith))
      ∙ tabulate_take 0 (c / 8) l (omega arith)

  pub none_spare : c % 8 ≡ 0 → pack (take c (unpack l)) ++ drop (bytes_for c) l ≡ l
  none_spare h =
      let e : bytes_for c ≡ c / 8 = omega arith in
      rw (packed, e, whole_bytes) (take-append-drop (c / 8) l)

  pub last_cleared : (c % 8 ≡ 0 → ⊥) → pack (take c (unpack l)) ++ drop (bytes_for c) l ≡ set l (c / 8) (get_or l (c / 8) 0 / 2 ^ (8 - c % 8) * 2 ^ (8 - c % 8))
  unfolding tabulate
  last_cleared h =
      let e : bytes_for c ≡ suc (c / 8) = omega arith in
      let b : c / 8 < length l = omega arith in
      let m : c - 8 * (c / 8) ≡ c % 8 = omega arith in
      rw (packed, e, whole_bytes, rw m at (kept_byte (c / 8) b (omega arith)), append_assoc) (sym (set_split l (c / 8) _ b))

-- a window of 16 bits in three bytes
pub window_bits : (b0 b1 b2 f : ℕ) → b0 < 256 → b1 < 256 → b2 < 256 → f ≤ 8
    → value (take 16 (drop f (bits 8 b0 ++ bits 8 b1 ++ bits 8 b2))) ≡ (b0 * 65536 + b1 * 256 + b2) / 2 ^ (8 - f) % 65536
window_bits b0 b1 b2 f h0 h1 h2 hf =
    let xs : List Bool = bits 8 b0 ++ bits 8 b1 ++ bits 8 b2 in
    let v : value xs ≡ b0 * 65536 + b1 * 256 + b2 =
    simp (value_append, length_bits, value_bits, mod-eq_of_lt h0, mod-eq_of_lt h1, mod-eq_of_lt h2) (omega arith) in
    let l : length (drop f xs) ≡ 16 + (8 - f) = simp (length-drop, length-append, length_bits) (omega arith) in
    let k : length (drop 16 (drop f xs)) ≡ 8 - f = rw (length-drop 16 (drop f xs)) (omega arith) in
    rw (value_take 16 (drop f xs), k, value_drop f xs, l) (field (value xs) 16 (8 - f) ∙ rw v)

-- 16 bits that begin in the first byte are bits of three bytes, of which the third may be past the end
first_three : (l : List ℕ) (f : ℕ) → f < 8 → f + 16 ≤ 8 * length l
    → take 16 (drop f (unpack l)) ≡ take 16 (drop f (bits 8 (get_or l 0 0) ++ bits 8 (get_or l 1 0) ++ bits 8 (get_or l 2 0)))
unfolding unpack
first_three [] f b h = absurd (omega arith)
first_three (x ∷ []) f b h = absurd (omega arith)
first_three (x ∷ y ∷ []) f b h = sym (front_16 f (unpack (x ∷ y ∷ [])) (bits 8 0) (rw length_unpack h)) ∙ simp (append_assoc, append-nil)
first_three (x ∷ y ∷ z ∷ l) f b h =
    simp append_assoc (simp append_assoc at (front_16 f (bits 8 x ++ bits 8 y ++ bits 8 z) (unpack l) (simp (length-append, length_bits) (omega arith))))

pub window_at : (l : List ℕ) (o : ℕ) → o + 16 ≤ 8 * length l
    → take 16 (drop o (unpack l)) ≡ take 16 (drop (o % 8) (bits 8 (get_or l (o / 8) 0) ++ bits 8 (get_or l (o / 8 + 1) 0) ++ bits 8 (get_or l (o / 8 + 2) 0)))
window_at l o h =
    let e : 8 * (o / 8) + o % 8 ≡ o = omega arith in
    let d : drop o (unpack l) ≡ drop (o % 8) (unpack (drop (o / 8) l)) = rw (← drop_unpack, drop-drop, e) in
    rw d (first_three (drop (o / 8) l) (o % 8) (omega arith) (rw length-drop (omega arith)) ∙ simp (get_or-drop, add-zero))

-- bytes after those that c bits need are not seen in these bits
pub cut_bytes : (m c : ℕ) (s r : List ℕ) → m ≤ length s → c ≤ 8 * m → take c (unpack (take m s ++ r)) ≡ take c (unpack s)
cut_bytes m c s r h k =
    let l : c ≤ length (unpack (take m s)) = rw (length_unpack, length-take-le m s h) k in
    let front : (t : List ℕ) → take c (unpack (take m s ++ t)) ≡ take c (unpack (take m s)) = λ t. rw (unpack_append, take-append-le c (unpack (take m s)) (unpack t) l) in
    front r ∙ sym (front (drop m s)) ∙ rw take-append-drop

-- the first bytes of a row, with others after them, cleared
pub clear_front : (c : ℕ) (s r : List ℕ) → bytes_for c ≤ length s
    → pack (take c (unpack (take (bytes_for c) s ++ r))) ++ drop (bytes_for c) (take (bytes_for c) s ++ r) ≡ pack (take c (unpack s)) ++ r
clear_front c s r h =
    rw (cut_bytes (bytes_for c) c s r h (omega arith), drop_at (take (bytes_for c) s) r (bytes_for c) (length-take-le (bytes_for c) s h))
