-- `redraw::accesses` meets its contract. Assumes nothing.
use Rattle.ground.proofs.Names.{◌∙◌, refl}
use Rattle.plans.specs.Plan.{largest}
use Rattle.redraw.proofs.Turns.{reach_turn}
use Rattle.redraw.proofs.accesses.Goals as goal

pub loop-i-init : goal.loop-i-init
unfolding largest
loop-i-init c = refl

pub loop-i-preserved : goal.loop-i-preserved
loop-i-preserved c = c.more-most.ensures ∙ reach_turn c.args.chain.now c.args.wanted.now c.loop-i.i _ c.loop-i-test.true c.loop-i.invariant
