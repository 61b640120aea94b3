-- Believed: document 01, "Ports", port by port.
-- Assumes nothing.
use Rattle.std.specs.Prelude.{ℕ, ◌<◌, Bool, false, not, ◌&&◌, ◌≡◌, eqb, ltb}
use Rattle.ground.specs.Choice.{if, bit, odd}
use Rattle.keys.specs.Keys.{groups_of}
use Rattle.ports.specs.Ports.{port_data}

-- port p with some number of groups: P4 the interrupt if any, a group port 0, an input its pin, an output its stored bit
abbrev pub port_level : ℕ → ℕ → ℕ → ℕ → ℕ → ℕ → Bool
port_level groups ports gpio pins interrupt p =
    if (eqb p 4 && not (eqb groups 0)) (odd interrupt)
    (if (ltb p groups) false (if (bit p ports) (bit p pins) (bit p gpio)))

-- GPIO data as read
pub record PortByPort : Type 0 where
  -- bit p, for P0 to P4
  pub level : (ports gpio pins interrupt p : ℕ) → p < 5
      → bit p (port_data ports gpio pins interrupt) ≡ port_level (groups_of ports) ports gpio pins interrupt p
  -- D7 to D5 read 0
  pub unused : (ports gpio pins interrupt : ℕ) → port_data ports gpio pins interrupt < 32
