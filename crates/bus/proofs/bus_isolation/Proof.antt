-- `bus::bus_isolation` meets its contract. Assumes nothing.
use Rattle.bus.proofs.Alone.{isolated}
use Rattle.bus.proofs.bus_isolation.Tie as tie

pub bus_isolation_spec : {M : Type 1} → Rattle.bus.proofs.bus_isolation.Statement.statement M
bus_isolation_spec = tie.close (tie.spec (λ c. isolated))
