-- Believed: document 01, "Segments and brightness": no call changes the fitted byte (255 at power-up), since no step of a driver does.
-- Assumes nothing.
use Rattle.std.specs.Prelude.{ℕ, ◌≡◌}
use Rattle.device.specs.Record.{with_pins}
use Rattle.device.specs.Taken.{taken}
use Rattle.device.specs.Steps.{scanned, clocked}
use Rattle.device.specs.TwoWire.{commanded, received, sent}
use Rattle.device.specs.declared.Device.{Device}

-- by all that a driver is given
pub record FittedByte : Type 0 where
  pub after_word : (d : Device) (w : ℕ) → (taken d w).fitted ≡ d.fitted
  pub after_scan : (x : Device) (a b c d : ℕ) → (scanned x a b c d).fitted ≡ x.fitted
  pub after_pins : (d : Device) (levels : ℕ) → (with_pins d levels).fitted ≡ d.fitted
  pub after_clocks : (d : Device) (clocks : ℕ) → (clocked d clocks).fitted ≡ d.fitted
  pub after_commanded : (d : Device) (v : ℕ) → (commanded d v).fitted ≡ d.fitted
  pub after_received : (d : Device) (v : ℕ) → (received d v).fitted ≡ d.fitted
  pub after_sent : (d : Device) → (sent d).fitted ≡ d.fitted
