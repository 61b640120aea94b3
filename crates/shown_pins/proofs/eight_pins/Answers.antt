-- `shown_pins::eight_pins` meets its contract. Assumes nothing.
use Rattle.shown_pins.specs.PackedPins.{eight_pins}
use Rattle.shown_pins.proofs.eight_pins.Goals as goal

pub returns : goal.returns
unfolding eight_pins
returns c = simp (c.carried.ensures, c.nonzero_bytes.ensures)
