-- `redraw::write_list` meets its contract. The invariant: the list with the words of the drivers so far. Assumes nothing.
use Rattle.ground.proofs.Names.{◌≡◌}
use Rattle.planner.specs.OneDriver.{list_to}
use Rattle.redraw.proofs.write_list.Given as goal

abbrev pub invariant-loop-i : goal.invariant-loop-i
invariant-loop-i l = l.list ≡ list_to l.chain l.wanted l.fn.list l.k l.i
