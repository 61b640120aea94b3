-- `bus::bus_kept` meets its contract. Assumes nothing.
use Rattle.bus.proofs.Kept.{bus_kept}
use Rattle.bus.proofs.bus_kept.Tie as tie

pub bus_kept_spec : {M : Type 1} → Rattle.bus.proofs.bus_kept.Statement.statement M
bus_kept_spec = tie.close (tie.spec (λ c. bus_kept))
