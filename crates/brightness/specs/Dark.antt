-- Believed: document 01, "Segments and brightness": display test, and the cathodes that are dark.
-- Assumes nothing.
use Rattle.std.specs.Prelude.{ℕ, Bool, not, ◌&&◌, ◌||◌, ltb}
use Rattle.ground.specs.Choice.{odd}
use Rattle.device.specs.declared.Device.{Device}

-- display test is on
abbrev pub test_on : Device → Bool
test_on x = odd x.registers.controls.test

-- with display test off, a cathode is dark in shutdown (S=0) or above the scan limit
abbrev pub dark : Device → ℕ → Bool
dark x d = not (test_on x) && (not (odd x.registers.config.s) || ltb x.registers.controls.limit d)
