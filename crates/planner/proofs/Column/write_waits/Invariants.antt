-- `planner::Column::write_waits` meets its contract. The invariant: so many no-ops are put. Assumes nothing.
use Rattle.ground.proofs.Names.{replicate}
use Rattle.planner.specs.Column.{Puts}
use Rattle.planner.proofs.Column.write_waits.Given as goal

abbrev pub invariant-loop : goal.invariant-loop
invariant-loop l = Puts l.fn.self l.self (replicate l.counter 0)
