-- `refusals::sizes` meets its contract. Assumes nothing.
use Rattle.refusals.proofs.SizeLaws.{sizes}
use Rattle.refusals.proofs.sizes.Tie as tie

pub sizes_spec : {M : Type 1} → Rattle.refusals.proofs.sizes.Statement.statement M
sizes_spec = tie.close (tie.spec (λ c. sizes))
