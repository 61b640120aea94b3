-- `bus::bus_soundness` meets its contract. Assumes nothing.
use Rattle.bus.proofs.Sound.{soundness}
use Rattle.bus.proofs.bus_soundness.Tie as tie

pub bus_soundness_spec : {M : Type 1} → Rattle.bus.proofs.bus_soundness.Statement.statement M
bus_soundness_spec = tie.close (tie.spec (λ c. soundness))
