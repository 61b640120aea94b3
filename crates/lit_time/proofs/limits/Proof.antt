-- `lit_time::limits` meets its contract. Assumes nothing.
use Rattle.lit_time.proofs.Limited.{limits}
use Rattle.lit_time.proofs.limits.Tie as tie

pub limits_spec : {M : Type 1} → Rattle.lit_time.proofs.limits.Statement.statement M
limits_spec = tie.close (tie.spec (λ c. limits))
