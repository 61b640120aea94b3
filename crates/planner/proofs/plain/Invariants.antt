-- `planner::plain` meets its contract. The invariant: the words of the digits below k. Assumes nothing.
use Rattle.ground.proofs.Names.{◌≡◌}
use Rattle.plans.specs.Least.{total, need_at}
use Rattle.planner.proofs.plain.Given as goal

abbrev pub invariant-loop-k : goal.invariant-loop-k
invariant-loop-k l = l.sum ≡ total l.k (need_at l.held l.wanted)
