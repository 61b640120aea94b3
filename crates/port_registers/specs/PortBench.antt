-- Believed: document 02, request 8, by 004: worked examples of one MAX6957, by what its words answer, by INT and by the width of each field.
-- Assumes nothing.
use Rattle.std.specs.Prelude.{ℕ, List, [], ◌∷◌, map, replicate}
use Rattle.ground.specs.Choice.{if}
use Rattle.ground.specs.Lists.{Agree}
use Rattle.port_registers.specs.PortRecord.{with_stored, with_pins, with_pairs, with_currents, with_global, with_test, with_config, with_transition}
use Rattle.port_registers.specs.PortPowerUp.{power_up}
use Rattle.port_registers.specs.PortSound.{sound_ports}
use Rattle.port_registers.specs.PortTaken.{taken, shift_word, PortStep, takes, given, stepped, after}
use Rattle.port_registers.specs.declared.PortRegisters.{PortRegisters}

-- the shift words that words leave, one after the other; pin levels leave none
abbrev pub leaves : PortRegisters → List PortStep → List ℕ
leaves x [] = []
leaves x (takes w ∷ steps) = shift_word x w ∷ leaves (taken x w) steps
leaves x (given levels ∷ steps) = leaves (stepped x (given levels)) steps

-- INT after each step
abbrev pub int : PortRegisters → List PortStep → List ℕ
int x [] = []
int x (step ∷ steps) = (stepped x step).transition.interrupt ∷ int (stepped x step) steps

-- words taken in turn
abbrev pub words : List ℕ → List PortStep
words ws = map takes ws

-- what words answer, and so the data of registers
abbrev pub rows : List (List ℕ × List ℕ)
rows =
    -- 1: at power-up every port is an input without pull-up, in shutdown
    (leaves power_up (words (0x8900 ∷ 0x8400 ∷ [])), 0x89AA ∷ 0x8400 ∷ [])
    -- 2: Table 3 decides: 0x40 has P4 in D0, and 0x43 seven ports
    ∷ (
      leaves power_up (words (0x0401 ∷ 0x0955 ∷ 0x0A55 ∷ 0x40F0 ∷ 0xC400 ∷ 0x40FF ∷ 0xC400 ∷ 0xC000 ∷ 0x43FF ∷ 0xC400 ∷ [])),
      0x0401 ∷ 0x0955 ∷ 0x0A55 ∷ 0x40F0 ∷ 0xC400 ∷ 0x40FF ∷ 0xC40F ∷ 0xC00F ∷ 0x43FF ∷ 0xC47F ∷ [],
    )
    -- 3: no wrap above P31
    ∷ (leaves power_up (words (0x0401 ∷ 0x0F55 ∷ 0x5CFF ∷ 0xDC00 ∷ 0xD800 ∷ 0xC400 ∷ [])), 0x0401 ∷ 0x0F55 ∷ 0x5CFF ∷ 0xDC0F ∷ 0xD8F0 ∷ 0xC400 ∷ [])
    -- 6: in shutdown every port reads its pin; a stored bit stays
    ∷ (
      leaves power_up (takes 0x0955 ∷ takes 0x400F ∷ takes 0xC000 ∷ given 5 ∷ takes 0xC000 ∷ takes 0x0401 ∷ takes 0xC000 ∷ []),
      0x0955 ∷ 0x400F ∷ 0xC000 ∷ 0xC005 ∷ 0x0401 ∷ 0xC00F ∷ [],
    )
    -- virtual ports, and addresses that aren't listed; a current's byte; unused bits read 0
    ∷ (
      leaves power_up (words (0x0401 ∷ 0x0955 ∷ 0x2001 ∷ 0xA000 ∷ 0xC000 ∷ 0x10FF ∷ 0x9000 ∷ 0x60FF ∷ 0xE000 ∷ 0x12E3 ∷ 0x9200 ∷ 0x02FF ∷ 0x8200 ∷ 0x06FF ∷ 0x8600 ∷ [])),
      0x0401 ∷ 0x0955 ∷ 0x2001 ∷ 0xA000 ∷ 0xC000 ∷ 0x10FF ∷ 0x9000 ∷ 0x60FF ∷ 0xE000 ∷ 0x12E3 ∷ 0x92E3 ∷ 0x02FF ∷ 0x820F ∷ 0x06FF ∷ 0x867F ∷ [],
    )
    -- configuration reads M I 0 0 0 0 0 S, display test one bit; the no-op reads 0
    ∷ (
      leaves power_up (words (0x04FF ∷ 0x8400 ∷ 0x0480 ∷ 0x8400 ∷ 0x0440 ∷ 0x8400 ∷ 0x0401 ∷ 0x8400 ∷ 0x07FF ∷ 0x8700 ∷ 0x00FF ∷ 0x8000 ∷ [])),
      0x04FF ∷ 0x84C1 ∷ 0x0480 ∷ 0x8480 ∷ 0x0440 ∷ 0x8440 ∷ 0x0401 ∷ 0x8401 ∷ 0x07FF ∷ 0x8701 ∷ 0x00FF ∷ 0x8000 ∷ [],
    )
    ∷ []

-- P24 watched, P31 an output as INT, detection on
abbrev pub watching : PortRegisters
watching = after power_up (words (0x0601 ∷ 0x0F6A ∷ 0x0481 ∷ []))

-- INT, step by step
abbrev pub int_rows : List (List ℕ × List ℕ)
int_rows =
    -- 7: raised by P24 and latched, cleared by a read of the mask, then off until configuration is written with M=1
    (
      int watching (given 0x100000 ∷ given 0 ∷ takes 0x8600 ∷ given 0x100000 ∷ takes 0x8400 ∷ takes 0x0481 ∷ given 0 ∷ []),
      1 ∷ 1 ∷ 0 ∷ 0 ∷ 0 ∷ 0 ∷ 1 ∷ [],
    )
    ∷ (leaves watching (given 0x100000 ∷ takes 0x8400 ∷ takes 0x8600 ∷ takes 0x8400 ∷ []), 0x8481 ∷ 0x8601 ∷ 0x8481 ∷ [])
    -- 8: the word taken again takes a new snapshot
    ∷ (int watching (given 0x100000 ∷ takes 0x0481 ∷ given 0x100000 ∷ given 0 ∷ []), 1 ∷ 0 ∷ 0 ∷ 1 ∷ [])
    -- 9: outputs are watched; the snapshot is what is read after S is stored, so there is no event at that write
    ∷ (int power_up (words (0x0601 ∷ 0x0F6A ∷ 0x0EA9 ∷ 0x3801 ∷ 0x3F01 ∷ 0x0481 ∷ 0x3800 ∷ 0x8600 ∷ 0x0401 ∷ [])), 0 ∷ 0 ∷ 0 ∷ 0 ∷ 0 ∷ 0 ∷ 1 ∷ 0 ∷ 0 ∷ [])
    -- a port that isn't masked is no event; a mask write that begins to watch a port that differs is one; an access without an event leaves detection on
    ∷ (int watching (given 0x200000 ∷ takes 0x8600 ∷ takes 0x0602 ∷ takes 0x0601 ∷ []), 0 ∷ 0 ∷ 1 ∷ 0 ∷ [])
    -- configuration written with M=0 leaves INT, and ends detection
    ∷ (int watching (given 0x100000 ∷ takes 0x0401 ∷ takes 0x0600 ∷ []), 1 ∷ 1 ∷ 0 ∷ [])
    ∷ (int watching (takes 0x0401 ∷ given 0x100000 ∷ []), 0 ∷ 0 ∷ [])
    ∷ []

-- 1 where a record is sound
abbrev pub sound : List PortRegisters → List ℕ
sound xs = map (λ x. if (sound_ports x) 1 0) xs

-- the configuration bits with these values
abbrev pub bits : ℕ → ℕ → ℕ → PortRegisters
bits m i s = with_config power_up (record { m = m; i = i; s = s })

-- transition detection with these
abbrev pub detection : ℕ → ℕ → ℕ → ℕ → PortRegisters
detection mask snapshot detecting interrupt = with_transition power_up (record { mask = mask; snapshot = snapshot; detecting = detecting; interrupt = interrupt })

-- each field at its greatest, and then one by one above it
abbrev pub sound_rows : List (List ℕ × List ℕ)
sound_rows = (
  sound (with_stored power_up 0xFFFFFFF ∷ with_pins power_up 0xFFFFFFF ∷ with_global power_up 15 ∷ with_test power_up 1 ∷ bits 1 1 1 ∷ detection 127 127 1 1 ∷ with_pairs power_up (replicate 7 255) ∷ with_currents power_up (replicate 14 255) ∷ []),
  replicate 8 1,
)
    ∷ (sound (with_stored power_up 0x10000000 ∷ with_pins power_up 0x10000000 ∷ with_global power_up 16 ∷ with_test power_up 2 ∷ []), replicate 4 0)
    ∷ (sound (bits 2 0 0 ∷ bits 0 2 0 ∷ bits 0 0 2 ∷ []), replicate 3 0)
    ∷ (sound (detection 128 0 0 0 ∷ detection 0 128 0 0 ∷ detection 0 0 2 0 ∷ detection 0 0 0 2 ∷ []), replicate 4 0)
    ∷ []

-- what the definitions give is what 004 says
pub record PortBench : Type 0 where
  pub answers : Agree rows
  pub interrupts : Agree int_rows
  pub widths : Agree sound_rows
