-- `laws::order_examples` meets its contract. Assumes nothing.
use Rattle.laws.proofs.Laws.{order_examples}
use Rattle.laws.proofs.order_examples.Tie as tie

pub order_examples_spec : {M : Type 1} → Rattle.laws.proofs.order_examples.Statement.statement M
order_examples_spec = tie.close (tie.spec (λ c. order_examples))
