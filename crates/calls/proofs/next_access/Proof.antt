-- `calls::next_access` meets its contract. Assumes nothing.
use Rattle.calls.proofs.Next.{next_access}
use Rattle.calls.proofs.next_access.Tie as tie

pub next_access_spec : {M : Type 1} → Rattle.calls.proofs.next_access.Statement.statement M
next_access_spec = tie.close (tie.spec (λ c. next_access))
