-- Believed: document 01, "Bits on the wire", and document 02, request 1: the shift word and the answer mark that a driver is left with by the word it takes.
-- Assumes nothing.
use Rattle.std.specs.Prelude.{ℕ, ◌/◌, ◌%◌, true, false, ◌≡◌}
use Rattle.ground.specs.Choice.{if, bit}
use Rattle.words.specs.Addresses.{read_at}
use Rattle.registers.specs.Registers.{data_of}
use Rattle.device.specs.Taken.{answer_word, taken}
use Rattle.device.specs.declared.Device.{Device}

-- by every word
pub record ShiftWord : Type 0 where
  -- after a write the shift word stays as clocked
  pub after_write : (d : Device) (w : ℕ) → bit 15 w ≡ false → (taken d w).shift ≡ w
  -- after a read D7 to D0 are the data that the register had before, D15 to D8 stay
  pub after_read : (d : Device) (w : ℕ) → bit 15 w ≡ true
      → (taken d w).shift ≡ answer_word w (data_of d.registers (read_at (w / 256 % 128)))
  -- the answer mark is D15 of the word: set by a read word, cleared by a write word, whatever it was before
  pub marked : (d : Device) (w : ℕ) → (taken d w).answer_mark ≡ if (bit 15 w) 1 0
