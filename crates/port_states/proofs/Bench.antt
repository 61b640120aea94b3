-- The worked examples, by computation.
-- Assumes nothing.
use Rattle.ground.proofs.Names.{refl, Agree, tabulate}
use Rattle.port_registers.specs.Levels.{upper_bits, directions, levels}
use Rattle.port_registers.specs.PortRegisters.{replaced}
use Rattle.port_registers.specs.PortTaken.{settled, taken, pinned}
use Rattle.port_states.specs.PortStates.{states_of}
use Rattle.port_states.specs.PortExamples.{rows, PortExamples}

driven : Agree rows
unfolding taken pinned settled levels directions upper_bits replaced tabulate states_of
driven = refl

pub examples : PortExamples
examples = record { driven = driven }
