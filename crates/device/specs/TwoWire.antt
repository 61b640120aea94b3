-- Believed: document 02, request 3: what bytes of the two-wire bus make of the part that they reach. Its command address steps by Table 6 of 001.
-- Assumes nothing.
use Rattle.std.specs.Prelude.{ℕ, ◌+◌, ◌%◌, ltb}
use Rattle.ground.specs.Choice.{if}
use Rattle.words.specs.Addresses.{written_at, read_at}
use Rattle.registers.specs.Registers.{written, data_of, after_read}
use Rattle.device.specs.Record.{with_registers, with_command}
use Rattle.device.specs.declared.Device.{Device}

-- Table 6 of 001: the address autoincrements after a byte read or written, and remains at 0x7F; 0x0D and 0x0E step too (DECISIONS 92)
abbrev pub next_address : ℕ → ℕ
next_address a = if (ltb a 127) (a + 1) 127

-- "the first byte is the command address (its top bit ignored)"
unfoldable pub commanded : Device → ℕ → Device
commanded d v = with_command d (v % 128)

-- "later bytes are data": a byte is written at the address, which then steps
unfoldable pub received : Device → ℕ → Device
received d v = with_command (with_registers d (written d.registers (written_at d.command) v)) (next_address d.command)

-- "a read begins at the address that this part last left": the data there
unfoldable pub sent_data : Device → ℕ
sent_data d = data_of d.registers (read_at d.command)

-- what reading it leaves; the address then steps
unfoldable pub sent : Device → Device
sent d = with_command (with_registers d (after_read d.registers (read_at d.command))) (next_address d.command)
