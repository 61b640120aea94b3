-- `printed::limits` meets its contract. Assumes nothing.
use Rattle.printed.proofs.Limited.{limits}
use Rattle.printed.proofs.limits.Tie as tie

pub limits_spec : {M : Type 1} → Rattle.printed.proofs.limits.Statement.statement M
limits_spec = tie.close (tie.spec (λ c. limits))
