-- The examples of one driver, by computation.
-- Assumes nothing.
use Rattle.ground.proofs.Names.{refl, Agree}
use Rattle.device.specs.Taken.{taken}
use Rattle.port_registers.specs.Levels.{upper_bits, directions, levels}
use Rattle.port_registers.specs.PortRegisters.{replaced}
use Rattle.port_registers.specs.PortTaken.{settled, taken as port_taken, pinned as port_pinned}
use Rattle.device.specs.Families.{takes, pinned, sound_record}
use Rattle.device.specs.Examples.{rows, register_rows, key_rows, family_rows, sound_rows, Examples}

bench : Agree rows
unfolding taken takes
bench = refl

bench_registers : Agree register_rows
unfolding taken pinned
bench_registers = refl

bench_keys : Agree key_rows
unfolding taken
bench_keys = refl

bench_families : Agree family_rows
unfolding port_taken port_pinned settled levels directions upper_bits replaced takes pinned taken
bench_families = refl

bench_sound : Agree sound_rows
unfolding port_pinned settled levels directions upper_bits pinned sound_record
bench_sound = refl

pub examples : Examples
examples = record { bench = bench; registers = bench_registers; keys = bench_keys; families = bench_families; sound = bench_sound }
