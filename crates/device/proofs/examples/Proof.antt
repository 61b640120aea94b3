-- `device::examples` meets its contract. Assumes nothing.
use Rattle.device.proofs.Bench.{examples}
use Rattle.device.proofs.examples.Tie as tie

pub examples_spec : {M : Type 1} → Rattle.device.proofs.examples.Statement.statement M
examples_spec = tie.close (tie.spec (λ c. examples))
