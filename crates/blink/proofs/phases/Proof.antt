-- `blink::phases` meets its contract. Assumes nothing.
use Rattle.blink.proofs.Half.{phases}
use Rattle.blink.proofs.phases.Tie as tie

pub phases_spec : {M : Type 1} → Rattle.blink.proofs.phases.Statement.statement M
phases_spec = tie.close (tie.spec (λ c. phases))
