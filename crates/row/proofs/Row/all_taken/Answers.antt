-- `row::Row::all_taken` meets its contract. The invariant: the first i records took their words. Assumes nothing.
use Rattle.ground.proofs.Names.{◌<◌, arith, ◌≡◌, refl, length, filled_start, filled_more, filled_rest, rules}
use Rattle.device.specs.PowerUp.{power_up}
use Rattle.row.proofs.Typed.{default}
use Rattle.row.proofs.Row.all_taken.Goals as goal

pub loop-at-preserved : goal.loop-at-preserved
loop-at-preserved c =
    let l = c.loop-at in
    let sized : length c.args.self.devices ≡ 16 = search rules in
    let h : l.at < length l.self.devices = omega (arith, l.invariant.1.size) in
    (l.invariant.0, filled_more _ l.invariant.1 (omega arith) (omega arith) (rw (c.taken.ensures, default _ power_up l.self.devices l.at h, filled_rest power_up l.invariant.1)))

pub loop-at-init : goal.loop-at-init
loop-at-init c = (refl, filled_start)
