-- Believed: document 01, "What the double covers": a record is sound when every field fits its register's width and the blink count
-- is below 4,000,000. The shift word and the fitted byte are as wide as their types. Document 02, request 1: the answer mark is a yes-or-no;
-- request 3: the command address has seven bits.
-- Assumes nothing.
use Rattle.std.specs.Prelude.{Bool, ◌&&◌, ltb}
use Rattle.registers.specs.Sound.{sound_registers}
use Rattle.device.specs.declared.Device.{Device}

-- all that registers hold is sound, the answer mark is 0 or 1, and the command address is below 128
abbrev pub sound_of : Device → Bool
sound_of d = sound_registers d.registers && ltb d.answer_mark 2 && ltb d.command 128
