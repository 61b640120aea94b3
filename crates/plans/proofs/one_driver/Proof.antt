-- `plans::one_driver` meets its contract. Assumes nothing.
use Rattle.plans.proofs.Planner.{one_driver}
use Rattle.plans.proofs.one_driver.Tie as tie

pub one_driver_spec : {M : Type 1} → Rattle.plans.proofs.one_driver.Statement.statement M
one_driver_spec = tie.close (tie.spec (λ c. one_driver))
