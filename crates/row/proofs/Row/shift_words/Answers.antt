-- `row::Row::shift_words` meets its contract. The invariant: the words of the first i records. Assumes nothing.
use Rattle.ground.proofs.Names.{◌<◌, arith, ◌≡◌, length, filled_start, filled_more, rules}
use Rattle.device.specs.PowerUp.{power_up}
use Rattle.row.proofs.Typed.{default}
use Rattle.row.proofs.Row.shift_words.Goals as goal

pub loop-k-preserved : goal.loop-k-preserved
loop-k-preserved c =
    let l = c.loop-k in
    let ds = c.args.self.devices in
    let sized : length ds ≡ 16 = search rules in
    let h : l.k < length ds = omega arith in
    filled_more _ l.invariant (omega arith) (omega arith) (rw (default _ power_up ds l.k h))

pub loop-k-init : goal.loop-k-init
loop-k-init c = filled_start
