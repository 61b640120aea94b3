-- `redraw::plan_bytes_examples` meets its contract. Assumes nothing.
use Rattle.redraw.proofs.BytesLaws.{bytes_examples}
use Rattle.redraw.proofs.plan_bytes_examples.Tie as tie

pub plan_bytes_examples_spec : {M : Type 1} → Rattle.redraw.proofs.plan_bytes_examples.Statement.statement M
plan_bytes_examples_spec = tie.close (tie.spec (λ c. bytes_examples))
