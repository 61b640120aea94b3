-- `redraw::sent` meets its contract. Assumes nothing.
use Rattle.redraw.proofs.OnWire.{on_wire}
use Rattle.redraw.proofs.sent.Tie as tie

pub sent_spec : {M : Type 1} → Rattle.redraw.proofs.sent.Statement.statement M
sent_spec = tie.close (tie.spec (λ c. on_wire))
