-- `device::soundness` meets its contract. Assumes nothing.
use Rattle.device.proofs.Sound.{soundness}
use Rattle.device.proofs.soundness.Tie as tie

pub soundness_spec : {M : Type 1} → Rattle.device.proofs.soundness.Statement.statement M
soundness_spec = tie.close (tie.spec (λ c. soundness))
