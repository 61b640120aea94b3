-- `plans::examples` meets its contract. Assumes nothing.
use Rattle.plans.proofs.Bench.{examples}
use Rattle.plans.proofs.examples.Tie as tie

pub examples_spec : {M : Type 1} → Rattle.plans.proofs.examples.Statement.statement M
examples_spec = tie.close (tie.spec (λ c. examples))
