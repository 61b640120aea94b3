-- Believed: document 01, "Keys" and "Blink": a scan and master clocks given to a driver, and the plane that it shows.
-- Assumes nothing.
use Rattle.std.specs.Prelude.{ℕ}
use Rattle.ground.specs.Choice.{odd}
use Rattle.words.specs.declared.Plane.{Plane}
use Rattle.keys.specs.Keys.{scanned_keys}
use Rattle.blink.specs.Blink.{advanced, shown_at}
use Rattle.device.specs.Record.{with_keys, with_blink}
use Rattle.device.specs.declared.Device.{Device}

-- a scan of groups A to D, under the driver's port configuration
abbrev pub scanned : Device → ℕ → ℕ → ℕ → ℕ → Device
scanned x a b c d = with_keys x (scanned_keys x.registers.keys x.registers.controls.ports a b c d)

-- master clocks given, never the bus clocks of an access
abbrev pub clocked : Device → ℕ → Device
clocked d clocks = with_blink d (advanced d.registers.blink clocks)

-- the plane shown: P0 when E=0, otherwise that of the phase
abbrev pub shown_plane : Device → Plane
shown_plane d = shown_at d.registers.blink (odd d.registers.config.b) (odd d.registers.config.e)
