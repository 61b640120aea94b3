-- Believed: document 01, "Blink": the plane that a driver shows, beside what its configuration register reads.
-- Assumes nothing.
use Rattle.std.specs.Prelude.{ℕ, ◌+◌, ◌/◌, true, false, ◌≡◌}
use Rattle.ground.specs.Choice.{odd}
use Rattle.words.specs.declared.Plane.TheVariants.{P0}
use Rattle.words.specs.declared.Register.TheVariants.{Configuration}
use Rattle.controls.specs.Config.{phase_bit}
use Rattle.registers.specs.Registers.{data_of}
use Rattle.device.specs.Steps.{clocked, shown_plane}
use Rattle.device.specs.declared.Device.{Device}

-- of every driver
pub record PlaneShown : Type 0 where
  -- E=0: P0, whatever the phase
  pub off : (d : Device) → odd d.registers.config.e ≡ false → shown_plane d ≡ P0
  -- E=1: that of the phase, as P reads
  pub on : (d : Device) → odd d.registers.config.e ≡ true → phase_bit (shown_plane d) ≡ data_of d.registers Configuration / 128
  -- clocks count on from the count before
  pub counted : (d : Device) (m n : ℕ) → clocked (clocked d m) n ≡ clocked d (m + n)
