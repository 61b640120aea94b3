-- `display::own_cathode` meets its contract. Assumes nothing.
use Rattle.display.proofs.Own.{own_cathode}
use Rattle.display.proofs.own_cathode.Tie as tie

pub own_cathode_spec : {M : Type 1} → Rattle.display.proofs.own_cathode.Statement.statement M
own_cathode_spec = tie.close (tie.spec (λ c. own_cathode))
