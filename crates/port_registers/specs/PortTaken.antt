-- Believed: document 02, request 8, by 004, "Transition (Port Data Change) Detection": what a MAX6957 does with a word, and with pin levels.
-- Assumes nothing.
use Rattle.std.specs.Prelude.{ℕ, Bool, not, ◌&&◌, List, [], ◌∷◌, eqb}
use Rattle.std.specs.Int.Bits.{bit_and, bit_xor}
use Rattle.ground.specs.Choice.{if, odd}
use Rattle.port_words.specs.PortAddresses.{port_word_of}
use Rattle.port_words.specs.declared.PortRegister.{PortRegister}
use Rattle.words.specs.Decoded.{obeyed as obeyed_by, shift_by}
use Rattle.words.specs.declared.Word.{Word}
use Rattle.port_registers.specs.PortRecord.{with_pins, with_transition}
use Rattle.port_registers.specs.Levels.{watched}
use Rattle.port_registers.specs.PortRegisters.{written, data_of, after_read}
use Rattle.port_registers.specs.declared.Transition.{Transition}
use Rattle.port_registers.specs.declared.PortRegisters.{PortRegisters}

-- while detection is on, a port with its mask bit set that reads other than in the snapshot
abbrev pub differs : Transition → ℕ → Bool
differs t levels = odd t.detecting && not (eqb (bit_and (bit_xor levels t.snapshot) t.mask) 0)

-- an event: INT goes high and detection ends; M and the snapshot stay
abbrev pub raised : Transition → Transition
raised t = record { mask = t.mask; snapshot = t.snapshot; detecting = 0; interrupt = 1 }

-- the comparison with the snapshot, after every step
unfoldable pub settled : PortRegisters → PortRegisters
settled x = with_transition x (if (differs x.transition (watched x)) (raised x.transition) x.transition)

-- a word obeyed
abbrev pub obeyed : PortRegisters → Word PortRegister → PortRegisters
obeyed = obeyed_by written after_read

-- a word taken
unfoldable pub taken : PortRegisters → ℕ → PortRegisters
taken x w = settled (obeyed x (port_word_of w))

-- pin levels given: all 28 are replaced
unfoldable pub pinned : PortRegisters → ℕ → PortRegisters
pinned x levels = settled (with_pins x levels)

-- the shift word after a word as clocked: a read gives in D7 to D0 the data that the register had before
abbrev pub shift_word : PortRegisters → ℕ → ℕ
shift_word x w = shift_by data_of x w (port_word_of w)

-- what a MAX6957 is given: a word, or pin levels
pub data PortStep : Type 0 where
  takes : ℕ → PortStep
  given : ℕ → PortStep

-- one step
abbrev pub stepped : PortRegisters → PortStep → PortRegisters
stepped x (takes w) = taken x w
stepped x (given levels) = pinned x levels

-- steps one after the other
abbrev pub after : PortRegisters → List PortStep → PortRegisters
after x [] = x
after x (step ∷ steps) = after (stepped x step) steps
