-- Believed: document 01, "Ports": the GPIO data register as read, from the port configuration, the stored GPIO data, the pin levels and
-- the interrupt.
-- Assumes nothing.
use Rattle.std.specs.Prelude.{ℕ, ◌-◌, ◌*◌, ◌%◌, [], ◌∷◌, eqb, get_or}
use Rattle.std.specs.Int.Bits.{bit_and, bit_or}
use Rattle.ground.specs.Choice.{if}
use Rattle.keys.specs.Keys.{groups_of}

-- the ports, as bits, that stay GPIO with 0, 1, 2 or 3 groups: groups take P0 first, and P4 is the interrupt
abbrev pub free_ports : ℕ → ℕ
free_ports groups = get_or (31 ∷ 14 ∷ 12 ∷ 8 ∷ []) groups 0

-- direction 0 is output, 1 input: an output gives its stored bit, an input its pin
abbrev pub gpio_bits : ℕ → ℕ → ℕ → ℕ
gpio_bits ports gpio pins = bit_or (bit_and (pins % 32) (ports % 32)) (bit_and gpio (31 - ports % 32))

-- P4 reads the interrupt, 1 when raised, if any group is configured
abbrev pub irq_level : ℕ → ℕ → ℕ
irq_level groups interrupt = if (eqb groups 0) 0 (interrupt % 2 * 16)

-- group ports read 0
abbrev pub port_data : ℕ → ℕ → ℕ → ℕ → ℕ
port_data ports gpio pins interrupt =
    bit_or (bit_and (free_ports (groups_of ports)) (gpio_bits ports gpio pins)) (irq_level (groups_of ports) interrupt)
