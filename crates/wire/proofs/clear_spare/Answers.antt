-- `wire::clear_spare` meets its contract, by the laws of the spare bits. Assumes nothing.
use Rattle.ground.proofs.Names.{sym, arith}
use Rattle.wire.proofs.ByteLaws.{none_spare, last_cleared}
use Rattle.wire.proofs.clear_spare.Goals as goal

pub returns-then-used-ne0 : goal.returns-then-used-ne0
returns-then-used-ne0 c =
    let k = c.slice_known-1.given in
    let a = c.args in
    rw c.kept.ensures (sym (last_cleared a.room.now a.clocks (omega arith) (λ i. (k i).fits) c.if-used-ne0.true))

pub returns-else-used-ne0 : goal.returns-else-used-ne0
returns-else-used-ne0 c =
    let a = c.args in
    sym (none_spare a.room.now a.clocks (omega arith) (λ i. (c.slice_known-1.given i).fits) c.if-used-ne0.false)
