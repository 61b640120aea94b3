-- `display::examples` meets its contract. Assumes nothing.
use Rattle.display.proofs.Bench.{examples}
use Rattle.display.proofs.examples.Tie as tie

pub examples_spec : {M : Type 1} → Rattle.display.proofs.examples.Statement.statement M
examples_spec = tie.close (tie.spec (λ c. examples))
