-- `wire::any_access` meets its contract. Assumes nothing.
use Rattle.wire.proofs.AnyLaws.{any_access}
use Rattle.wire.proofs.any_access.Tie as tie

pub any_access_spec : {M : Type 1} → Rattle.wire.proofs.any_access.Statement.statement M
any_access_spec = tie.close (tie.spec (λ c. any_access))
