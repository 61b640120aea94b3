-- Auxiliary: a word with an address of 0x20 or above changes a MAX6957's stored bits, its transition detection and the shift word, as
-- `PortHighWords` says, and nothing else.
-- Assumes nothing.
use Rattle.std.specs.Prelude.{ℕ, true, ◌≡◌}
use Rattle.port_registers.specs.PortTaken.{taken, shift_word}
use Rattle.port_registers.specs.declared.PortRegisters.{PortRegisters}
use Rattle.port_high_words.specs.PortHighWords.{is_high, new_shift, new_ports}

-- by every such word
pub record HighPorts : Type 0 where
  pub registers : (x : PortRegisters) (w : ℕ) → is_high w ≡ true → taken x w ≡ new_ports w x
  pub shift : (x : PortRegisters) (w : ℕ) → is_high w ≡ true → shift_word x w ≡ new_shift w x
