-- `laws::driver_laws` meets its contract. Assumes nothing.
use Rattle.laws.proofs.Laws.{driver_laws}
use Rattle.laws.proofs.driver_laws.Tie as tie

pub driver_laws_spec : {M : Type 1} → Rattle.laws.proofs.driver_laws.Statement.statement M
driver_laws_spec = tie.close (tie.spec (λ c. driver_laws))
