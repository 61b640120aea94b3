-- `lit_time::periods` meets its contract. Assumes nothing.
use Rattle.lit_time.proofs.Closing.{periods}
use Rattle.lit_time.proofs.periods.Tie as tie

pub periods_spec : {M : Type 1} → Rattle.lit_time.proofs.periods.Statement.statement M
periods_spec = tie.close (tie.spec (λ c. periods))
