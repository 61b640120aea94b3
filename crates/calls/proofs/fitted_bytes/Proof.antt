-- `calls::fitted_bytes` meets its contract. Assumes nothing.
use Rattle.calls.proofs.Records.{fitted_bytes_lem}
use Rattle.calls.proofs.fitted_bytes.Tie as tie

pub fitted_bytes_spec : {M : Type 1} → Rattle.calls.proofs.fitted_bytes.Statement.statement M
fitted_bytes_spec = tie.close (tie.spec (λ c. fitted_bytes_lem))
