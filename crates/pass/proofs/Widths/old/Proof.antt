-- `pass::Widths::old` meets its contract. Assumes nothing.
use Rattle.pass.proofs.Masks.{byte_mask}
use Rattle.pass.proofs.Widths.old.Tie as tie

pub old_spec : {M : Type 1} → Rattle.pass.proofs.Widths.old.Statement.statement M
old_spec = tie.close (tie.spec (λ c. simp byte_mask))
