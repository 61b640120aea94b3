-- `plans::shortest` meets its contract. Assumes nothing.
use Rattle.plans.proofs.Lists.{shortest}
use Rattle.plans.proofs.shortest.Tie as tie

pub shortest_spec : {M : Type 1} → Rattle.plans.proofs.shortest.Statement.statement M
shortest_spec = tie.close (tie.spec (λ c. shortest))
