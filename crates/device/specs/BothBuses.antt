-- Believed: document 02, request 3: "Registers, keys, blink and segments are those built, shown right once for both buses", and the command address in the record.
-- Assumes nothing.
use Rattle.std.specs.Prelude.{ℕ, ◌+◌, ◌*◌, ◌%◌, ◌<◌, ◌≡◌}
use Rattle.device.specs.Record.{with_pins}
use Rattle.device.specs.Taken.{answer_word, taken}
use Rattle.device.specs.Steps.{scanned, clocked}
use Rattle.device.specs.TwoWire.{commanded, received, sent_data, sent}
use Rattle.device.specs.declared.Device.{Device}

-- a byte written at the command address, and read there, against the words that write and read it on the chain
pub record SameRegisters (d : Device) : Type 0 where
  pub when_written : (v : ℕ) → v < 256 → (received d v).registers ≡ (taken d (d.command * 256 + v)).registers
  pub when_read : (sent d).registers ≡ (taken d (0x8000 + d.command * 256)).registers
  pub data_read : (taken d (0x8000 + d.command * 256)).shift ≡ answer_word (0x8000 + d.command * 256) (sent_data d)
  -- a command byte stores nothing but the address
  pub when_commanded : (v : ℕ) → (commanded d v).registers ≡ d.registers

-- the shift word and the answer mark, which accesses alone touch
pub record Kept (d e : Device) : Type 0 where
  pub shift : e.shift ≡ d.shift
  pub mark : e.answer_mark ≡ d.answer_mark

-- the command address: a command byte sets it, its top bit ignored; a data byte either way steps it, and leaves 127; nothing else touches it
pub record Address (d : Device) : Type 0 where
  pub by_command : (v : ℕ) → (commanded d v).command ≡ v % 128
  pub by_given : (v : ℕ) → d.command < 127 → (received d v).command ≡ d.command + 1
  pub by_asked : d.command < 127 → (sent d).command ≡ d.command + 1
  pub last_given : (v : ℕ) → d.command ≡ 127 → (received d v).command ≡ 127
  pub last_asked : d.command ≡ 127 → (sent d).command ≡ 127
  pub by_word : (w : ℕ) → (taken d w).command ≡ d.command
  pub by_scan : (a b c e : ℕ) → (scanned d a b c e).command ≡ d.command
  pub by_pins : (levels : ℕ) → (with_pins d levels).command ≡ d.command
  pub by_clocks : (clocks : ℕ) → (clocked d clocks).command ≡ d.command

-- of every part
pub record BothBuses : Type 0 where
  pub registers : (d : Device) → d.command < 128 → SameRegisters d
  pub kept_commanded : (d : Device) (v : ℕ) → Kept d (commanded d v)
  pub kept_given : (d : Device) (v : ℕ) → Kept d (received d v)
  pub kept_asked : (d : Device) → Kept d (sent d)
  pub address : (d : Device) → Address d
