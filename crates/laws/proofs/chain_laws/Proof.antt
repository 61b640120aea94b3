-- `laws::chain_laws` meets its contract. Assumes nothing.
use Rattle.laws.proofs.OnChain.{chain_laws}
use Rattle.laws.proofs.chain_laws.Tie as tie

pub chain_laws_spec : {M : Type 1} → Rattle.laws.proofs.chain_laws.Statement.statement M
chain_laws_spec = tie.close (tie.spec (λ c. chain_laws))
