-- `redraw::accesses` meets its contract. The invariant: the most accesses that the drivers so far need. Assumes nothing.
use Rattle.ground.proofs.Names.{◌≡◌}
use Rattle.planner.specs.OneDriver.{reach_to}
use Rattle.redraw.proofs.accesses.Given as goal

abbrev pub invariant-loop-i : goal.invariant-loop-i
invariant-loop-i l = l.most ≡ reach_to l.chain l.wanted l.i
