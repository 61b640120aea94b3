-- `bus::bus_examples` meets its contract. Assumes nothing.
use Rattle.bus.proofs.Bench.{bench}
use Rattle.bus.proofs.bus_examples.Tie as tie

pub bus_examples_spec : {M : Type 1} → Rattle.bus.proofs.bus_examples.Statement.statement M
bus_examples_spec = tie.close (tie.spec (λ c. bench))
