-- `device::both_buses` meets its contract. Assumes nothing.
use Rattle.device.proofs.Both.{both_buses}
use Rattle.device.proofs.both_buses.Tie as tie

pub both_buses_spec : {M : Type 1} → Rattle.device.proofs.both_buses.Statement.statement M
both_buses_spec = tie.close (tie.spec (λ c. both_buses))
