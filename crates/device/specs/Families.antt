-- Believed: document 02, request 8: "A record gains a family number, 0 old and 1 new". What a driver does goes by its family here, and nowhere else.
-- The registers of the other family are never read, tested or changed.
-- Assumes nothing.
use Rattle.std.specs.Prelude.{ℕ, Bool, true, ◌&&◌, List, map, eqb, ltb}
use Rattle.ground.specs.Choice.{if, bit}
use Rattle.words.specs.Addresses.{read_at}
use Rattle.registers.specs.Registers.{data_of}
use Rattle.port_words.specs.PortAddresses.{register_at}
use Rattle.port_registers.specs.PortRegisters.{data_of as port_data}
use Rattle.port_registers.specs.PortTaken.{taken as port_taken, pinned as port_pinned, shift_word}
use Rattle.port_registers.specs.PortSound.{sound_ports}
use Rattle.device.specs.Record.{with_pins, with_shift, with_mark, with_ports}
use Rattle.device.specs.Sound.{sound_of}
use Rattle.device.specs.Taken.{taken}
use Rattle.device.specs.declared.Device.{Device}

-- a MAX6957 takes its word: after a read, D7 to D0 of the shift word become the register's data; the mark is D15 of the word
abbrev pub ports_taken : Device → ℕ → Device
ports_taken d w = with_mark (with_shift (with_ports d (port_taken d.ports w)) (shift_word d.ports w)) (if (bit 15 w) 1 0)

-- a driver of either family takes its word
unfoldable pub takes : Device → ℕ → Device
takes d w = if (eqb d.family 1) (ports_taken d w) (taken d w)

-- pin levels given: 28 of a MAX6957, else five
unfoldable pub pinned : Device → ℕ → Device
pinned d l = if (eqb d.family 1) (with_ports d (port_pinned d.ports l)) (with_pins d l)

-- the data that a read at address a finds
abbrev pub data_at : Device → ℕ → ℕ
data_at d a = if (eqb d.family 1) (port_data d.ports (register_at a)) (data_of d.registers (read_at a))

-- the interrupt
abbrev pub interrupt_of : Device → ℕ
interrupt_of d = if (eqb d.family 1) d.ports.transition.interrupt d.registers.keys.interrupt

-- a MAX6957's record is sound
abbrev pub port_sound : Device → Bool
port_sound d = sound_ports d.ports && ltb d.answer_mark 2

-- a record is sound by its own family's fields alone; one of an unknown family is not tested
unfoldable pub sound_record : Device → Bool
sound_record d = if (eqb d.family 0) (sound_of d) (if (eqb d.family 1) (port_sound d) true)

-- the families of a row's drivers
abbrev pub families : List Device → List ℕ
families ds = map (λ (d : Device). d.family) ds
