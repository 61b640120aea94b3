-- `device::plane_shown` meets its contract. Assumes nothing.
use Rattle.device.proofs.Phased.{plane_shown_lem}
use Rattle.device.proofs.plane_shown.Tie as tie

pub plane_shown_spec : {M : Type 1} → Rattle.device.proofs.plane_shown.Statement.statement M
plane_shown_spec = tie.close (tie.spec (λ c. plane_shown_lem))
