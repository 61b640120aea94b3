-- Nothing that a driver is given changes its fitted byte.
-- Assumes nothing.
use Rattle.ground.proofs.Names.{◌≡◌, refl}
use Rattle.words.specs.Addresses.{word_of}
use Rattle.words.specs.declared.Register.{Register}
use Rattle.words.specs.declared.Word.{Word}
use Rattle.words.specs.declared.Word.TheVariants.{Write, Read}
use Rattle.device.specs.Record.{with_shift}
use Rattle.device.specs.Taken.{obeyed, taken}
use Rattle.device.specs.TwoWire.{commanded, received, sent}
use Rattle.device.specs.FittedByte.{FittedByte}
use Rattle.device.specs.declared.Device.{Device}

obeyed_fitted : (d : Device) (w : Word Register) → (obeyed d w).fitted ≡ d.fitted
obeyed_fitted d (Write r v) = refl
obeyed_fitted d (Read r) = refl

pub fitted_byte : FittedByte
unfolding taken commanded received sent
fitted_byte = record {
  after_word = λ d w. obeyed_fitted (with_shift d w) (word_of w);
  after_scan = λ x a b c d. refl;
  after_pins = λ d levels. refl;
  after_clocks = λ d clocks. refl;
  after_commanded = λ d v. refl;
  after_received = λ d v. refl;
  after_sent = λ d. refl;
}
