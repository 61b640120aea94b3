-- `lent::call_refusal` meets its contract. Assumes nothing.
use Rattle.ground.proofs.Names.{◌≡◌, arith, sym, ◌∙◌, length}
use Rattle.pass.specs.Own.{own_of}
use Rattle.pass.proofs.WidthLaws.{widths_start, all_start}
use Rattle.lent.proofs.Passed.{widths_turn, old_number}
use Rattle.lent.proofs.call_refusal.Goals as goal

pub loop-d-init : goal.loop-d-init
loop-d-init c = (c.new-widths.ensures ∙ widths_start c.args.chain.now, all_start c.args.chain.now)

pub loop-d-preserved : goal.loop-d-preserved
loop-d-preserved c =
    widths_turn c.args.chain.now c.loop-d.d-index _ (omega arith) c.loop-d.invariant.0 c.loop-d.invariant.1 c.with-widths.ensures.wider c.with-widths.ensures.bytes

pub returns-then-old : goal.returns-then-old
returns-then-old c =
    let xs = c.args.chain.now in
    let e : c.loop-d.d-index ≡ length xs = omega arith in
    c.found_old.ensures
    ∙ old_number xs c.args.driver (own_of c.args.asked) c.in_ok-by_arguments.ensures e c.loop-d.invariant.0 c.loop-d.invariant.1 (sym c.old.ensures ∙ c.if-old.true)
