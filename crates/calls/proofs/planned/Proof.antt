-- `calls::planned` meets its contract. Assumes nothing.
use Rattle.calls.proofs.Plans.{planned_calls}
use Rattle.calls.proofs.planned.Tie as tie

pub planned_spec : {M : Type 1} → Rattle.calls.proofs.planned.Statement.statement M
planned_spec = tie.close (tie.spec (λ c. planned_calls))
