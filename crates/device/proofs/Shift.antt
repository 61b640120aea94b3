-- The shift word and the answer mark that a driver is left with by the word it takes, and with its registers, all that is replaced.
-- Assumes nothing.
use Rattle.ground.proofs.Names.{ℕ, ◌/◌, ◌%◌, Bool, true, false, ◌≡◌, refl, ◌∙◌, ap, ne_eqb, if, bit}
use Rattle.words.specs.Addresses.{read_at, word_of}
use Rattle.words.specs.Decoded.{obeyed as registers_after, shift_by}
use Rattle.words.specs.declared.Register.{Register}
use Rattle.words.specs.declared.Word.{Word}
use Rattle.words.specs.declared.Word.TheVariants.{Write, Read}
use Rattle.registers.specs.Registers.{written, data_of, after_read}
use Rattle.registers.specs.declared.Registers.{Registers}
use Rattle.device.specs.Record.{with_registers, with_shift, with_mark}
use Rattle.device.specs.Taken.{answer_word, obeyed, taken}
use Rattle.device.specs.Families.{takes}
use Rattle.device.specs.ShiftWord.{ShiftWord}
use Rattle.device.specs.declared.Device.{Device}

shift_after_write : (d : Device) (w : ℕ) → bit 15 w ≡ false → (taken d w).shift ≡ w
unfolding taken
shift_after_write d w e = simp e

shift_after_read : (d : Device) (w : ℕ) → bit 15 w ≡ true → (taken d w).shift ≡ answer_word w (data_of d.registers (read_at (w / 256 % 128)))
unfolding taken
shift_after_read d w e = simp e

taken_mark : (d : Device) (w : ℕ) → (taken d w).answer_mark ≡ if (bit 15 w) 1 0
unfolding taken
taken_mark d w = go (bit 15 w) refl
  where
    go : (b : Bool) → bit 15 w ≡ b → (taken d w).answer_mark ≡ if b 1 0
    go true e = simp e
    go false e = simp e

pub shift_word_lem : ShiftWord
shift_word_lem = record { after_write = shift_after_write; after_read = shift_after_read; marked = taken_mark }

-- the record with the registers after a word, the shift word after it, and a mark
abbrev replaced : Device → ℕ → Word Register → ℕ → Device
replaced d w x m = with_mark (with_shift (with_registers d (registers_after written after_read d.registers x)) (shift_by data_of d.registers w x)) m

obeyed_parts : (d : Device) (w : ℕ) (x : Word Register) → obeyed (with_shift d w) x ≡ replaced d w x (obeyed (with_shift d w) x).answer_mark
obeyed_parts d w (Write r v) = refl
obeyed_parts d w (Read r) = refl

pub taken_parts : (d : Device) (w : ℕ) → taken d w ≡ replaced d w (word_of w) (if (bit 15 w) 1 0)
unfolding taken
taken_parts d w = obeyed_parts d w (word_of w) ∙ ap (replaced d w (word_of w)) (taken_mark d w)

-- these replaced in a driver that is no MAX6957
pub old_taken : (d : Device) (w : ℕ) (x : Registers) (s m : ℕ) → (d.family ≡ 1 → ⊥) → x ≡ registers_after written after_read d.registers (word_of w)
    → s ≡ shift_by data_of d.registers w (word_of w) → m ≡ if (bit 15 w) 1 0 → with_mark (with_shift (with_registers d x) s) m ≡ takes d w
unfolding takes
old_taken d w x s m n e f g = rw (ne_eqb d.family 1 n, taken_parts d w, e, f, g)
