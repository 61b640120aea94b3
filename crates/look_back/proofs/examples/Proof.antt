-- `look_back::examples` meets its contract. Assumes nothing.
use Rattle.look_back.proofs.Bench.{examples}
use Rattle.look_back.proofs.examples.Tie as tie

pub examples_spec : {M : Type 1} → Rattle.look_back.proofs.examples.Statement.statement M
examples_spec = tie.close (tie.spec (λ c. examples))
