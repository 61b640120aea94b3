-- `device::both_families` meets its contract. Assumes nothing.
use Rattle.device.proofs.Families.{both_families}
use Rattle.device.proofs.both_families.Tie as tie

pub both_families_spec : {M : Type 1} → Rattle.device.proofs.both_families.Statement.statement M
both_families_spec = tie.close (tie.spec (λ c. both_families))
