-- `pass::Seen::fit` meets its contract. Assumes nothing.
use Rattle.ground.proofs.Names.{div-one}
use Rattle.pass.proofs.Masks.{byte_mask}
use Rattle.pass.proofs.Seen.fit.Tie as tie

pub fit_spec : {M : Type 1} → Rattle.pass.proofs.Seen.fit.Statement.statement M
fit_spec = tie.close (tie.spec (λ c. simp (byte_mask, div-one)))
