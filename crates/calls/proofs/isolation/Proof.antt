-- `calls::isolation` meets its contract. Assumes nothing.
use Rattle.calls.proofs.Alone.{isolated}
use Rattle.calls.proofs.isolation.Tie as tie

pub isolation_spec : {M : Type 1} → Rattle.calls.proofs.isolation.Statement.statement M
isolation_spec = tie.close (tie.spec (λ c. isolated))
