-- `look_back::no_further` meets its contract. Assumes nothing.
use Rattle.look_back.proofs.LookedLaws.{no_further}
use Rattle.look_back.proofs.no_further.Tie as tie

pub no_further_spec : {M : Type 1} → Rattle.look_back.proofs.no_further.Statement.statement M
no_further_spec = tie.close (tie.spec (λ c. no_further))
