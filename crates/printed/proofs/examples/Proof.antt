-- `printed::examples` meets its contract. Assumes nothing.
use Rattle.printed.proofs.Bench.{examples}
use Rattle.printed.proofs.examples.Tie as tie

pub examples_spec : {M : Type 1} → Rattle.printed.proofs.examples.Statement.statement M
examples_spec = tie.close (tie.spec (λ c. examples))
