-- `calls::order` meets its contract. Assumes nothing.
use Rattle.calls.proofs.InOrder.{order}
use Rattle.calls.proofs.order.Tie as tie

pub order_spec : {M : Type 1} → Rattle.calls.proofs.order.Statement.statement M
order_spec = tie.close (tie.spec (λ c. order))
