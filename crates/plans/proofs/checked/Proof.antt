-- `plans::checked` meets its contract. Assumes nothing.
use Rattle.plans.proofs.Check.{checked}
use Rattle.plans.proofs.checked.Tie as tie

pub checked_spec : {M : Type 1} → Rattle.plans.proofs.checked.Statement.statement M
checked_spec = tie.close (tie.spec (λ c. checked))
