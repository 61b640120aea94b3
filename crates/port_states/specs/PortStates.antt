-- Believed: document 02, request 8, by Tables 1, 2 and 9 to 12 of 004: what each port drives, and its number.
-- Assumes nothing.
use Rattle.std.specs.Prelude.{ℕ, ◌+◌, ◌-◌, ◌*◌, ◌/◌, ◌%◌, ◌^◌, Bool, not, ◌&&◌, List, eqb, get_or}
use Rattle.ground.specs.Choice.{if, bit, odd}
use Rattle.ground.specs.Lists.{tabulate}
use Rattle.port_registers.specs.declared.PortRegisters.{PortRegisters}
use Rattle.port_states.specs.declared.PortState.{PortState}
use Rattle.port_states.specs.declared.PortState.TheVariants.{Undriven, Low, High, Led}

-- Table 1: the pair of port p, 00 LED, 01 output, 10 input, 11 input with pull-up
abbrev pub pair_of : PortRegisters → ℕ → ℕ
pair_of x p = get_or x.pairs ((p - 4) / 4) 0 / 2 ^ (2 * (p % 4)) % 4

-- Table 10: the current of port p, an odd port in the high nibble
abbrev pub own_nibble : PortRegisters → ℕ → ℕ
own_nibble x p = if (odd p) (get_or x.currents ((p - 4) / 2) 0 / 16 % 16) (get_or x.currents ((p - 4) / 2) 0 % 16)

-- Table 7: the global current (I=0) or the port's own
abbrev pub nibble_of : PortRegisters → ℕ → ℕ
nibble_of x p = if (odd x.config.i) (own_nibble x p) (x.global % 16)

-- an output's stored bit; P31 is INT where M=1
abbrev pub level_driven : PortRegisters → ℕ → Bool
level_driven x p = if (eqb p 31 && odd x.config.m) (odd x.transition.interrupt) (bit (p - 4) x.stored)

-- port p: an LED port in display test has half the current, in shutdown too; in shutdown no other port drives; an LED port is off (high impedance)
-- or has v + 1 sixteenths (Tables 9, 11 and 12); an output is low or high; an input drives nothing
abbrev pub state_of : PortRegisters → ℕ → PortState
state_of x p =
    if (eqb (pair_of x p) 0 && odd x.test) (Led 8)
    (if (not (odd x.config.s)) Undriven
    (if (eqb (pair_of x p) 0) (if (bit (p - 4) x.stored) (Led (nibble_of x p + 1)) Undriven)
    (if (eqb (pair_of x p) 1) (if (level_driven x p) High Low) Undriven)))

-- 0 undriven, 1 low, 2 high, 2+s an LED current of s sixteenths
abbrev pub port_number : PortState → ℕ
port_number Undriven = 0
port_number Low = 1
port_number High = 2
port_number (Led s) = 2 + s

-- P4 to P31
unfoldable pub states_of : PortRegisters → List ℕ
states_of x = tabulate 28 (λ k. port_number (state_of x (k + 4)))
