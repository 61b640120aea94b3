-- `bus::chain_calls` meets its contract. Assumes nothing.
use Rattle.bus.proofs.Kept.{chain_calls}
use Rattle.bus.proofs.chain_calls.Tie as tie

pub chain_calls_spec : {M : Type 1} → Rattle.bus.proofs.chain_calls.Statement.statement M
chain_calls_spec = tie.close (tie.spec (λ c. chain_calls))
