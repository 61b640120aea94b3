-- The parts of a word, whatever registers its addresses name.
-- Assumes nothing.
use Rattle.ground.proofs.Names.{ℕ, ◌+◌, ◌*◌, ◌/◌, ◌%◌, ◌<◌, arith, Bool, true, false, ◌≡◌, ap, if, bit, odd}
use Rattle.words.specs.Decoded.{address_of, decoded}
use Rattle.words.specs.declared.Word.TheVariants.{Write, Read}

module _ {R : Type 0} (written read : ℕ → R) (a v : ℕ) (ha : a < 128) (hv : v < 256) where
  word_by : (w : ℕ) (b : Bool) → bit 15 w ≡ b → address_of w ≡ a → w % 256 ≡ v → decoded written read w ≡ if b (Read (read a)) (Write (written a) v)
  word_by w b e f g = simp (e, f, g)

  pub write_word : decoded written read (a * 256 + v) ≡ Write (written a) v
  write_word =
      let top : (a * 256 + v) / 32768 ≡ 0 = omega arith in
      word_by (a * 256 + v) false (ap odd top) (omega arith) (omega arith)

  pub read_word : decoded written read (0x8000 + a * 256 + v) ≡ Read (read a)
  read_word =
      let top : (0x8000 + a * 256 + v) / 32768 ≡ 1 = omega arith in
      word_by (0x8000 + a * 256 + v) true (ap odd top) (omega arith) (omega arith)
