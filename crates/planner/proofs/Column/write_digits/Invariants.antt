-- `planner::Column::write_digits` meets its contract. The invariant: the words of the digits below k are put. Assumes nothing.
use Rattle.plans.specs.Plan.{steps}
use Rattle.planner.specs.Column.{Puts}
use Rattle.planner.proofs.Column.write_digits.Given as goal

abbrev pub invariant-loop-k : goal.invariant-loop-k
invariant-loop-k l = Puts l.fn.self l.self (steps l.held l.wanted l.k)
