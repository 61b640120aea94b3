-- `redraw::write_list` meets its contract. Assumes nothing.
use Rattle.ground.proofs.Names.{◌∙◌, refl}
use Rattle.planner.specs.OneDriver.{list_to}
use Rattle.redraw.proofs.Turns.{list_turn}
use Rattle.redraw.proofs.write_list.Goals as goal

pub loop-i-init : goal.loop-i-init
unfolding list_to
loop-i-init c = refl

pub loop-i-preserved : goal.loop-i-preserved
loop-i-preserved c = c.write_driver.ensures ∙ list_turn c.args.chain.now c.args.wanted.now c.loop-i.i _ c.loop-i-test.true c.args.list.now c.args.k c.loop-i.invariant
