-- `calls::examples` meets its contract. Assumes nothing.
use Rattle.calls.proofs.Bench.{examples}
use Rattle.calls.proofs.examples.Tie as tie

pub examples_spec : {M : Type 1} → Rattle.calls.proofs.examples.Statement.statement M
examples_spec = tie.close (tie.spec (λ c. examples))
