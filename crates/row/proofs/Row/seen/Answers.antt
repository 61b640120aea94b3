-- `row::Row::seen` meets its contract. The invariant: what the first i records tell. Assumes nothing.
use Rattle.ground.proofs.Names.{◌<◌, arith, ◌≡◌, ◌∙◌, length, rules}
use Rattle.device.specs.PowerUp.{power_up}
use Rattle.pass.proofs.SeenLaws.{seen_start, seen_more}
use Rattle.row.proofs.Typed.{default}
use Rattle.row.proofs.Row.seen.Goals as goal

pub loop-i-init : goal.loop-i-init
loop-i-init c = c.new-w.ensures ∙ seen_start c.args.self.devices

pub loop-i-preserved : goal.loop-i-preserved
loop-i-preserved c =
    let l = c.loop-i in
    let ds = c.args.self.devices in
    let sized : length ds ≡ 16 = search rules in
    let h : l.i < length ds = omega arith in
    rw (c.with-w.ensures.seen, l.invariant, default _ power_up ds l.i h) (seen_more ds l.i h)
