-- Believed: document 01, "What the double covers", and document 02, request 8: the record of a driver, with one part of it replaced.
-- Assumes nothing.
use Rattle.std.specs.Prelude.{ℕ}
use Rattle.keys.specs.declared.Keys.{Keys}
use Rattle.registers.specs.Record.{with_keys as keys_replaced, with_pins as pins_replaced, with_blink as blink_replaced}
use Rattle.registers.specs.declared.Registers.{Registers}
use Rattle.port_registers.specs.declared.PortRegisters.{PortRegisters}
use Rattle.device.specs.declared.Device.{Device}

-- all that registers hold
abbrev pub with_registers : Device → Registers → Device
with_registers d x = record { registers = x; shift = d.shift; fitted = d.fitted; answer_mark = d.answer_mark; command = d.command; family = d.family; ports = d.ports }

-- the key state
abbrev pub with_keys : Device → Keys → Device
with_keys d k = with_registers d (keys_replaced d.registers k)

-- the five pin levels
abbrev pub with_pins : Device → ℕ → Device
with_pins d n = with_registers d (pins_replaced d.registers n)

-- the blink count
abbrev pub with_blink : Device → ℕ → Device
with_blink d n = with_registers d (blink_replaced d.registers n)

-- the 16-bit shift word
abbrev pub with_shift : Device → ℕ → Device
with_shift d w = record { registers = d.registers; shift = w; fitted = d.fitted; answer_mark = d.answer_mark; command = d.command; family = d.family; ports = d.ports }

-- the fitted byte
abbrev pub with_fitted : Device → ℕ → Device
with_fitted d n = record { registers = d.registers; shift = d.shift; fitted = n; answer_mark = d.answer_mark; command = d.command; family = d.family; ports = d.ports }

-- the answer mark
abbrev pub with_mark : Device → ℕ → Device
with_mark d m = record { registers = d.registers; shift = d.shift; fitted = d.fitted; answer_mark = m; command = d.command; family = d.family; ports = d.ports }

-- the command address of the two-wire bus
abbrev pub with_command : Device → ℕ → Device
with_command d a = record { registers = d.registers; shift = d.shift; fitted = d.fitted; answer_mark = d.answer_mark; command = a; family = d.family; ports = d.ports }

-- all that the ports of a MAX6957 hold
abbrev pub with_ports : Device → PortRegisters → Device
with_ports d x = record { registers = d.registers; shift = d.shift; fitted = d.fitted; answer_mark = d.answer_mark; command = d.command; family = d.family; ports = x }

-- the family number
abbrev pub with_family : Device → ℕ → Device
with_family d f = record { registers = d.registers; shift = d.shift; fitted = d.fitted; answer_mark = d.answer_mark; command = d.command; family = f; ports = d.ports }
