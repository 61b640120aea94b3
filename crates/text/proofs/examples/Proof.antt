-- `text::examples` meets its contract. Assumes nothing.
use Rattle.text.proofs.Bench.{examples}
use Rattle.text.proofs.examples.Tie as tie

pub examples_spec : {M : Type 1} → Rattle.text.proofs.examples.Statement.statement M
examples_spec = tie.close (tie.spec (λ c. examples))
