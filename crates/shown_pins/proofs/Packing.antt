-- A pin's byte of a packed row and the segments that aren't lit is the number of the pin by the wiring table.
-- Assumes nothing.
use Rattle.ground.proofs.Names.{ℕ, zero, suc, ◌+◌, ◌-◌, ◌*◌, ◌/◌, ◌%◌, ◌^◌, ◌<◌, arith, Bool, true, false, not, ◌&&◌, Bool·beq, ◌≡◌, refl, ap, sym, ◌∙◌, bit_and, bit_or, and_le_r, and_zero_r, or_zero_l, or_zero_r, and_mask, eqb, ltb, eqb-true, lt-ltb, ltb-true, ltb-false, if, bit, all, all_at, low_bit, high_bit, not_bit, same, if_small}
use Rattle.wiring.specs.Table.{entry_at}
use Rattle.wiring.specs.PackedRows.{byte_of, packed, lit_number, entry_bit, packed_entries, pin_entry, packed_pins}
use Rattle.wiring.specs.declared.Display.{Display}
use Rattle.wiring.proofs.Bytes.{byte_packed, byte_and, byte_or, byte_add, byte_shifted, byte_repeated}
use Rattle.display.specs.Pins.{pin_code}
use Rattle.display.specs.declared.Pin.TheVariants.{NotDriven, Cathode, Lit, Unlit, NoSegment}
use Rattle.display.specs.ByTable.{pin_by}
use Rattle.shown_pins.specs.PackedPins.{ones, seven_bits, carried_by, nonzero_bytes, eight_pins, word_at}

-- a byte that is not 0, marked in its highest bit
marked : (v : ℕ) → v < 256 → bit_or (bit_and v 127 + 127) v / 128 ≡ if (eqb v 0) 0 1
marked v h = eqb-true _ _ (all_at (λ u. eqb (bit_or (bit_and u 127 + 127) u / 128) (if (eqb u 0) 0 1)) 256 refl v h)

seven_bits_lem : (w i : ℕ) → i < 8 → byte_of (bit_and w seven_bits) i ≡ bit_and (byte_of w i) 127
seven_bits_lem w i h = byte_and i w seven_bits ∙ ap (bit_and (byte_of w i)) (byte_repeated 127 i (omega arith) h)

added : (w i : ℕ) → i < 8 → byte_of (bit_and w seven_bits + seven_bits) i ≡ bit_and (byte_of w i) 127 + 127
added w i h =
    byte_add 8 i (bit_and w seven_bits) seven_bits h
    (λ j l. rw (seven_bits_lem w j l, byte_repeated 127 j (omega arith) l) (omega (arith, and_le_r (byte_of w j) 127)))
    ∙ rw (seven_bits_lem w i h, byte_repeated 127 i (omega arith) h)

nonzero : (w i : ℕ) → i < 8 → byte_of (nonzero_bytes w) i ≡ if (eqb (byte_of w i) 0) 0 1
nonzero w i h =
    let x = bit_or (bit_and w seven_bits + seven_bits) w in
    byte_and i (x / 2 ^ 7) ones
    ∙ rw (byte_repeated 1 i (omega arith) h, and_mask (byte_of (x / 2 ^ 7) i) 1, byte_shifted i x, byte_or, added w i h)
    (marked (byte_of w i) (omega arith))

-- entry n among the three bytes of some segments
abbrev picked : ℕ → ℕ → ℕ
picked u n =
    bit_or (bit_or (bit_and (byte_of u 0) (entry_bit 0 n)) (bit_and (byte_of u 1) (entry_bit 1 n))) (bit_and (byte_of u 2) (entry_bit 2 n))

-- what is packed are bytes
small_bit : (g n : ℕ) → entry_bit g n < 256
small_bit g n =
    let small = all_at (λ k. ltb (2 ^ k) 256) 8 refl (n % 8) (omega arith) in
    ltb-true _ _ (if_small (ltb n 17 && eqb (n / 8) g) (2 ^ (n % 8)) 0 256 small refl)

small_number : (n : ℕ) → lit_number n < 256
small_number n =
    ltb-true _ _ (if_small (ltb n 17) 2 (if (eqb n 17) 4 (if (eqb n 18) 1 0)) 256 refl (if_small (eqb n 17) 4 (if (eqb n 18) 1 0) 256 refl (if_small (eqb n 18) 1 0 256 refl refl)))

-- the byte of a pin, by its entry
module _ (u i : ℕ) (entry : ℕ → ℕ) (h : i < 8) where
  bits : (g : ℕ) → byte_of (packed 8 (λ j. entry_bit g (entry j))) i ≡ entry_bit g (entry i)
  bits g = byte_packed 8 i (λ j. entry_bit g (entry j)) (λ j. small_bit g (entry j)) h

  carried : byte_of (carried_by u (packed_entries 8 entry)) i ≡ picked u (entry i)
  carried =
      let small : (g : ℕ) → byte_of u g < 256 = λ g. omega arith in
      simp (byte_or, byte_and, byte_repeated, small, bits 0, bits 1, bits 2)

  eight : byte_of (eight_pins u (packed_entries 8 entry)) i ≡ bit_or (lit_number (entry i)) (if (eqb (picked u (entry i)) 0) 0 1)
  unfolding eight_pins
  eight =
      rw (byte_or, byte_packed 8 i (λ j. lit_number (entry j)) (λ j. small_number (entry j)) h, nonzero _ i h, carried)

-- a bit of a byte, by the mask that has it alone
abbrev tested : ℕ → ℕ → Bool
tested v j = Bool·beq (eqb (bit_and v (2 ^ j)) 0) (not (bit j v))

masked : (v j : ℕ) → v < 256 → j < 8 → eqb (bit_and v (2 ^ j)) 0 ≡ not (bit j v)
masked v j hv hj = same _ _ (all_at (tested v) 8 (all_at (λ u. all (tested u) 8) 256 refl v hv) j hj)

-- of three bytes only byte a has a mask
one_byte : (u m a : ℕ) → a < 3
    → bit_or (bit_or (bit_and (byte_of u 0) (if (eqb a 0) m 0)) (bit_and (byte_of u 1) (if (eqb a 1) m 0))) (bit_and (byte_of u 2) (if (eqb a 2) m 0))
    ≡ bit_and (byte_of u a) m
one_byte u m zero h = simp (and_zero_r, or_zero_r)
one_byte u m (suc zero) h = simp (and_zero_r, or_zero_r, or_zero_l)
one_byte u m (suc (suc zero)) h = simp (and_zero_r, or_zero_r, or_zero_l)
one_byte u m (suc (suc (suc a))) h = absurd (omega arith)

-- bit n of a number, in its byte
byte_bit : (u n : ℕ) → bit (n % 8) (byte_of u (n / 8)) ≡ bit n u
byte_bit u n =
    let e : n % 8 + 8 * (n / 8) ≡ n = omega arith in
    low_bit 8 (n % 8) (u / 2 ^ (8 * (n / 8))) (omega arith) ∙ sym (high_bit (8 * (n / 8)) (n % 8) u) ∙ rw e

-- entry n is among some segments where its bit is set
picked_bit : (u n : ℕ) → n < 17 → eqb (picked u n) 0 ≡ not (bit n u)
picked_bit u n h =
    rw (lt-ltb n 17 h, one_byte u (2 ^ (n % 8)) (n / 8) (omega arith))
    (masked (byte_of u (n / 8)) (n % 8) (omega arith) (omega arith) ∙ ap not (byte_bit u n))

-- no other entry is among them
not_picked : (u n : ℕ) → ltb n 17 ≡ false → picked u n ≡ 0
not_picked u n e = simp (e, and_zero_r)

-- the number of a pin, by the segments that aren't lit, is its number by those that are
module _ (segments : ℕ) (hs : segments < 2 ^ 64) where
  abbrev unlit : ℕ
  unlit = 2 ^ 64 - 1 - segments

  abbrev number : ℕ → ℕ → ℕ
  number lit n = bit_or lit (if (eqb (picked unlit n) 0) 0 1)

  segment_pin : (n : ℕ) → ltb n 17 ≡ true → number 2 n ≡ pin_code (pin_by segments n)
  segment_pin n e =
      let h = ltb-true n 17 e in
      rw (picked_bit unlit n h, not_bit 64 n segments (omega arith) hs, e) (go (bit n segments))
    where
      go : (b : Bool) → bit_or 2 (if (not (not b)) 0 1) ≡ pin_code (if b Lit Unlit)
      go true = refl
      go false = refl

  entry_pin : (n : ℕ) → number (lit_number n) n ≡ pin_code (pin_by segments n)
  entry_pin n = go (ltb n 17) refl
    where
      codes : (a b : Bool) → if a 4 (if b 1 0) ≡ pin_code (if a NoSegment (if b Cathode NotDriven))
      codes true b = refl
      codes false true = refl
      codes false false = refl

      go : (b : Bool) → ltb n 17 ≡ b → number (lit_number n) n ≡ pin_code (pin_by segments n)
      go true e = let l : lit_number n ≡ 2 = rw e in ap (λ v. number v n) l ∙ segment_pin n e
      go false e =
          let number_alone = ap (λ q. bit_or (lit_number n) (if (eqb q 0) 0 1)) (not_picked unlit n e) ∙ or_zero_r (lit_number n) in
          number_alone ∙ rw e (codes (eqb n 17) (eqb n 18))

-- a pin of a packed row
module _ (k : Display) (d p segments : ℕ) (hd : d < 8) (hp : p < 19) (hs : segments < 2 ^ 64) where
  abbrev word : ℕ → ℕ
  word q = eight_pins (2 ^ 64 - 1 - segments) (packed_pins k d q)

  abbrev by_table : ℕ
  by_table = pin_code (pin_by segments (entry_at k d p))

  in_word : (q : ℕ) → q + p % 8 ≡ p → byte_of (word q) (p % 8) ≡ by_table
  in_word q e =
      let entry : pin_entry k d (q + p % 8) ≡ entry_at k d p = rw (e, lt-ltb d 8 hd, lt-ltb p 19 hp) in
      eight (2 ^ 64 - 1 - segments) (p % 8) (λ i. pin_entry k d (q + i)) (omega arith)
      ∙ entry_pin segments hs (pin_entry k d (q + p % 8))
      ∙ ap (λ n. pin_code (pin_by segments n)) entry

  pub row_pin : byte_of (word_at (word 0) (word 8) (word 16) p) (p % 8) ≡ by_table
  row_pin = go (ltb p 8) (ltb p 16) refl refl
    where
      go : (a b : Bool) → ltb p 8 ≡ a → ltb p 16 ≡ b → byte_of (if a (word 0) (if b (word 8) (word 16))) (p % 8) ≡ by_table
      go true b e f = in_word 0 (omega (arith, ltb-true p 8 e))
      go false true e f = in_word 8 (omega (arith, ltb-false p 8 e, ltb-true p 16 f))
      go false false e f = in_word 16 (omega (arith, ltb-false p 16 f))
