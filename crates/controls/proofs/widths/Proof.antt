-- `controls::widths` meets its contract. Assumes nothing.
use Rattle.controls.proofs.Wide.{widths}
use Rattle.controls.proofs.widths.Tie as tie

pub widths_spec : {M : Type 1} → Rattle.controls.proofs.widths.Statement.statement M
widths_spec = tie.close (tie.spec (λ c. widths))
