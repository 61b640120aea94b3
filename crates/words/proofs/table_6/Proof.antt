-- `words::table_6` meets its contract. Assumes nothing.
use Rattle.words.proofs.Mapped.{mapped}
use Rattle.words.proofs.table_6.Tie as tie

pub table_6_spec : {M : Type 1} → Rattle.words.proofs.table_6.Statement.statement M
table_6_spec = tie.close (tie.spec (λ c. mapped))
