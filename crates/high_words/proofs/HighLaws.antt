-- A word with an address of 0x20 or above, taken, leaves what `high_taken` says.
-- Assumes nothing.
use Rattle.ground.proofs.Names.{ℕ, ◌/◌, ◌%◌, ◌^◌, ◌≤◌, ◌<◌, dec_lt, ℕ_discrete, arith, true, false, ◌≡◌, ◌∙◌, eqb, eqb-true, and_left, and_right, ltb, set-get_or, ltb-true, lt-ltb, le-ltb, eq-eqb, ne_eqb, bit}
use Rattle.words.specs.Addresses.{high_register, alike_at, word_of}
use Rattle.words.specs.declared.Word.TheVariants.{Write, Read}
use Rattle.device.specs.Taken.{taken}
use Rattle.device.specs.Families.{takes}
use Rattle.device.proofs.Families.{old_takes}
use Rattle.device.specs.declared.Device.{Device}
use Rattle.high_words.specs.HighWords.{is_high, in_place, high_taken}

module _ (w : ℕ) (fits : w < 65536) (high : is_high w ≡ true) where
  two : 2 ≤ w / 4096 % 8
  two = ltb-true 1 (w / 4096 % 8) high

  -- neither the row of 0x08 to 0x0F nor that of 0x00 to 0x07
  not_low : eqb (w / 256 % 128 / 8) 1 ≡ false
  not_low = ne_eqb (w / 256 % 128 / 8) 1 (λ e. omega (arith, e, two))

  register : alike_at (w / 256 % 128) ≡ high_register (w / 4096 % 8) (w / 256 % 16)
  register =
      let b : ltb (w / 256 % 128) 8 ≡ false = le-ltb (w / 256 % 128) 8 (omega (arith, two)) in
      let c : w / 256 % 128 / 16 ≡ w / 4096 % 8 = omega arith in
      let d : w / 256 % 128 % 16 ≡ w / 256 % 16 = omega arith in
      rw (b, c, d)

  written_word : w / 4096 < 8 → word_of w ≡ Write (high_register (w / 4096) (w / 256 % 16)) (w % 256)
  written_word l =
      let e : bit 15 w ≡ false = ne_eqb (w / 2 ^ 15 % 2) 1 (λ h. omega (arith, h, l)) in
      let m : w / 4096 % 8 ≡ w / 4096 = omega (arith, l) in
      rw (e, not_low, register, m)

  read_word : 8 ≤ w / 4096 → word_of w ≡ Read (high_register (w / 4096 % 8) (w / 256 % 16))
  read_word l =
      let e : bit 15 w ≡ true = eq-eqb (w / 2 ^ 15 % 2) 1 (omega (arith, l, fits)) in
      rw (e, not_low, register)

  pub high_taken_lem : (d : Device) → taken d w ≡ high_taken d w
  unfolding taken
  high_taken_lem d = by_write (dec_lt (w / 4096) 8)
    where
      by_read_row : 8 ≤ w / 4096 → Dec (w / 4096 ≡ 10) → Dec (w / 4096 ≡ 12) → Dec (w / 4096 ≡ 14) → taken d w ≡ high_taken d w
      by_read_row l (yes e) _ _ = simp (read_word l, e, set-get_or)
      by_read_row l (no a) (yes e) _ = simp (read_word l, e, set-get_or)
      by_read_row l (no a) (no b) (yes e) = simp (read_word l, e, set-get_or)
      by_read_row l (no a) (no b) (no c) =
          let n1 : eqb (w / 4096 % 8) 1 ≡ false = ne_eqb (w / 4096 % 8) 1 (λ h. omega (arith, h, two)) in
          let n2 : eqb (w / 4096 % 8) 2 ≡ false = ne_eqb (w / 4096 % 8) 2 (λ h. a (omega (arith, h, l, fits))) in
          let n4 : eqb (w / 4096 % 8) 4 ≡ false = ne_eqb (w / 4096 % 8) 4 (λ h. b (omega (arith, h, l, fits))) in
          let n6 : eqb (w / 4096 % 8) 6 ≡ false = ne_eqb (w / 4096 % 8) 6 (λ h. c (omega (arith, h, l, fits))) in
          let m2 : eqb (w / 4096) 2 ≡ false = ne_eqb (w / 4096) 2 (λ h. omega (arith, h, l)) in
          let m4 : eqb (w / 4096) 4 ≡ false = ne_eqb (w / 4096) 4 (λ h. omega (arith, h, l)) in
          let m6 : eqb (w / 4096) 6 ≡ false = ne_eqb (w / 4096) 6 (λ h. omega (arith, h, l)) in
          simp (read_word l, n1, n2, n4, n6, m2, m4, m6, le-ltb (w / 4096) 8 l, ne_eqb (w / 4096) 12 b, ne_eqb (w / 4096) 10 a, set-get_or)

      by_write_row : w / 4096 < 8 → Dec (w / 4096 ≡ 2) → Dec (w / 4096 ≡ 4) → Dec (w / 4096 ≡ 6) → taken d w ≡ high_taken d w
      by_write_row l (yes e) _ _ = simp (written_word l, e, set-get_or)
      by_write_row l (no a) (yes e) _ = simp (written_word l, e, set-get_or)
      by_write_row l (no a) (no b) (yes e) = simp (written_word l, e)
      by_write_row l (no a) (no b) (no c) =
          let n1 : eqb (w / 4096) 1 ≡ false = ne_eqb (w / 4096) 1 (λ h. omega (arith, h, two)) in
          simp (written_word l, n1, ne_eqb (w / 4096) 2 a, ne_eqb (w / 4096) 4 b, ne_eqb (w / 4096) 6 c, lt-ltb (w / 4096) 8 l, set-get_or)

      by_write : Dec (w / 4096 < 8) → taken d w ≡ high_taken d w
      by_write (yes l) = by_write_row l (ℕ_discrete (w / 4096) 2) (ℕ_discrete (w / 4096) 4) (ℕ_discrete (w / 4096) 6)
      by_write (no n) = let l : 8 ≤ w / 4096 = omega (arith, n) in by_read_row l (ℕ_discrete (w / 4096) 10) (ℕ_discrete (w / 4096) 12) (ℕ_discrete (w / 4096) 14)

-- obeyed where it lies by a driver of the old family
pub in_place_lem : (w : ℕ) → w < 65536 → (d : Device) → in_place w d.family ≡ true → takes d w ≡ high_taken d w
in_place_lem w fits d e =
    let z : d.family ≡ 0 = eqb-true d.family 0 (and_right (is_high w) (eqb d.family 0) e) in
    old_takes d w (rw z) ∙ high_taken_lem w fits (and_left (is_high w) (eqb d.family 0) e) d
