-- `bus::acknowledged` meets its contract. Assumes nothing.
use Rattle.bus.proofs.Bytes.{acknowledged}
use Rattle.bus.proofs.acknowledged.Tie as tie

pub acknowledged_spec : {M : Type 1} → Rattle.bus.proofs.acknowledged.Statement.statement M
acknowledged_spec = tie.close (tie.spec (λ c. acknowledged))
