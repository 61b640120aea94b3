-- Believed: document 01, "Bits on the wire", and document 02, request 1: what a driver does with the word it takes.
-- Assumes nothing.
use Rattle.std.specs.Prelude.{ℕ, ◌+◌, ◌*◌, ◌/◌}
use Rattle.words.specs.Addresses.{word_of}
use Rattle.words.specs.declared.Register.{Register}
use Rattle.words.specs.declared.Word.{Word}
use Rattle.words.specs.declared.Word.TheVariants.{Write, Read}
use Rattle.registers.specs.Registers.{written, data_of, after_read}
use Rattle.device.specs.Record.{with_registers, with_shift, with_mark}
use Rattle.device.specs.declared.Device.{Device}

-- D7 to D0 of a shift word replaced, D15 to D8 stay
abbrev pub answer_word : ℕ → ℕ → ℕ
answer_word shift v = shift / 256 * 256 + v

-- after a read, D7 to D0 of the shift word become the register's data
abbrev pub answered : Device → Register → Device
answered d r =
    with_shift (with_registers d (after_read d.registers r)) (answer_word d.shift (data_of d.registers r))

-- a driver obeys its shift word; after a write the shift word stays as clocked. The answer mark is set by a read word, cleared by a write word
abbrev pub obeyed : Device → Word Register → Device
obeyed d (Write r v) = with_mark (with_registers d (written d.registers r v)) 0
obeyed d (Read r) = with_mark (answered d r) 1

-- a driver takes its word
unfoldable pub taken : Device → ℕ → Device
taken d w = obeyed (with_shift d w) (word_of w)
