-- `lent::records_refusal` meets its contract. Assumes nothing.
use Rattle.ground.proofs.Names.{◌≡◌, arith, ◌∙◌, length}
use Rattle.pass.specs.Own.{own_of}
use Rattle.pass.proofs.WidthLaws.{all_start}
use Rattle.pass.proofs.SeenLaws.{seen_start}
use Rattle.pass.proofs.FoundLaws.{records_found}
use Rattle.lent.proofs.Passed.{seen_turn}
use Rattle.lent.proofs.records_refusal.Goals as goal

pub loop-d-init : goal.loop-d-init
loop-d-init c = (c.new-seen.ensures ∙ seen_start c.args.chain.now, all_start c.args.chain.now)

pub loop-d-preserved : goal.loop-d-preserved
loop-d-preserved c =
    seen_turn c.args.chain.now c.loop-d.d-index _ (omega arith) c.loop-d.invariant.0 c.loop-d.invariant.1 c.with-seen.ensures.seen c.with-seen.ensures.bytes

pub returns : goal.returns
returns c =
    let xs = c.args.chain.now in
    let e : c.loop-d.d-index ≡ length xs = omega arith in
    c.found_by.ensures ∙ rw (c.loop-d.invariant.0, e) (records_found xs c.args.family (own_of c.args.asked) (rw e at c.loop-d.invariant.1))
