-- `bus::transactions` meets its contract. Assumes nothing.
use Rattle.bus.proofs.Whole.{all_transactions}
use Rattle.bus.proofs.transactions.Tie as tie

pub transactions_spec : {M : Type 1} → Rattle.bus.proofs.transactions.Statement.statement M
transactions_spec = tie.close (tie.spec (λ c. all_transactions))
