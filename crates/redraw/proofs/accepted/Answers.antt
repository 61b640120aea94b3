-- `redraw::accepted` meets its contract. Assumes nothing.
use Rattle.ground.proofs.Names.{◌∙◌, refl}
use Rattle.plans.specs.Check.{below}
use Rattle.redraw.proofs.Turns.{accept_turn}
use Rattle.redraw.proofs.accepted.Goals as goal

pub loop-i-init : goal.loop-i-init
unfolding below
loop-i-init c = refl

pub loop-i-preserved : goal.loop-i-preserved
loop-i-preserved c = c.accepts-each.ensures ∙ accept_turn c.args.chain.now c.args.wanted.now c.loop-i.i _ c.loop-i-test.true c.args.n c.args.list.now c.loop-i.invariant
