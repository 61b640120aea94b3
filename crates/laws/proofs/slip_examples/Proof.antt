-- `laws::slip_examples` meets its contract. Assumes nothing.
use Rattle.laws.proofs.Slipped.{slip_examples}
use Rattle.laws.proofs.slip_examples.Tie as tie

pub slip_examples_spec : {M : Type 1} → Rattle.laws.proofs.slip_examples.Statement.statement M
slip_examples_spec = tie.close (tie.spec (λ c. slip_examples))
