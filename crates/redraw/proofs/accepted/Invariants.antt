-- `redraw::accepted` meets its contract. The invariant: whether the drivers so far accept their words. Assumes nothing.
use Rattle.ground.proofs.Names.{◌≡◌}
use Rattle.planner.specs.OneDriver.{accept_to}
use Rattle.redraw.proofs.accepted.Given as goal

abbrev pub invariant-loop-i : goal.invariant-loop-i
invariant-loop-i l = l.each ≡ accept_to l.chain l.n l.wanted l.list l.i
