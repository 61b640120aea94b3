-- `keys::key_by_key` meets its contract. Assumes nothing.
use Rattle.keys.proofs.Keyed.{key_by_key}
use Rattle.keys.proofs.key_by_key.Tie as tie

pub key_by_key_spec : {M : Type 1} → Rattle.keys.proofs.key_by_key.Statement.statement M
key_by_key_spec = tie.close (tie.spec (λ c. key_by_key))
