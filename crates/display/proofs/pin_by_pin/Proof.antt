-- `display::pin_by_pin` meets its contract. Assumes nothing.
use Rattle.display.proofs.Wires.{pin_by_pin}
use Rattle.display.proofs.pin_by_pin.Tie as tie

pub pin_by_pin_spec : {M : Type 1} → Rattle.display.proofs.pin_by_pin.Statement.statement M
pin_by_pin_spec = tie.close (tie.spec (λ c. pin_by_pin))
