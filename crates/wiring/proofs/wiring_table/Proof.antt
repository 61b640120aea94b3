-- `wiring::wiring_table` meets its contract. Assumes nothing.
use Rattle.wiring.proofs.Wired.{wired}
use Rattle.wiring.proofs.wiring_table.Tie as tie

pub wiring_table_spec : {M : Type 1} → Rattle.wiring.proofs.wiring_table.Statement.statement M
wiring_table_spec = tie.close (tie.spec (λ c. wired))
