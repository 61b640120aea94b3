-- `laws::slipped_access` meets its contract. Assumes nothing.
use Rattle.laws.proofs.Slipped.{slipped_access}
use Rattle.laws.proofs.slipped_access.Tie as tie

pub slipped_access_spec : {M : Type 1} → Rattle.laws.proofs.slipped_access.Statement.statement M
slipped_access_spec = tie.close (tie.spec (λ c. slipped_access))
