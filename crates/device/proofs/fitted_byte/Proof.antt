-- `device::fitted_byte` meets its contract. Assumes nothing.
use Rattle.device.proofs.Fitted.{fitted_byte}
use Rattle.device.proofs.fitted_byte.Tie as tie

pub fitted_byte_spec : {M : Type 1} → Rattle.device.proofs.fitted_byte.Statement.statement M
fitted_byte_spec = tie.close (tie.spec (λ c. fitted_byte))
