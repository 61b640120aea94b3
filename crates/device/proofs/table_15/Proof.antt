-- `device::table_15` meets its contract. Assumes nothing.
use Rattle.device.proofs.PoweredUp.{powered_up}
use Rattle.device.proofs.table_15.Tie as tie

pub table_15_spec : {M : Type 1} → Rattle.device.proofs.table_15.Statement.statement M
table_15_spec = tie.close (tie.spec (λ c. powered_up))
