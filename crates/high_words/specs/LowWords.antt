-- Auxiliary: what any word changes in the record of a driver of the old family: the registers, the shift word and the answer mark. `taken` is what is believed.
-- Assumes nothing.
use Rattle.std.specs.Prelude.{ℕ, Bool, eqb}
use Rattle.words.specs.Addresses.{word_of}
use Rattle.words.specs.Decoded.{obeyed, shift_by}
use Rattle.registers.specs.Registers.{written, data_of, after_read}
use Rattle.registers.specs.declared.Registers.{Registers}
use Rattle.port_registers.specs.declared.PortRegisters.{PortRegisters}
use Rattle.device.specs.Record.{with_registers, with_shift, with_mark, with_ports}
use Rattle.device.specs.declared.Device.{Device}
use Rattle.high_words.specs.HighWords.{new_mark}

-- a driver is a MAX6957
abbrev pub is_ports : ℕ → Bool
is_ports family = eqb family 1

-- the registers after a word
unfoldable pub low_registers : Registers → ℕ → Registers
low_registers x w = obeyed written after_read x (word_of w)

-- the shift word after it
unfoldable pub low_shift : Registers → ℕ → ℕ
low_shift x w = shift_by data_of x w (word_of w)

-- the record after it
abbrev pub low_taken : Device → ℕ → Device
low_taken d w = with_mark (with_shift (with_registers d (low_registers d.registers w)) (low_shift d.registers w)) (new_mark w)

-- the record of a MAX6957 with its registers, its shift word and its answer mark replaced
abbrev pub ports_replaced : Device → PortRegisters → ℕ → ℕ → Device
ports_replaced d x s m = with_mark (with_shift (with_ports d x) s) m
