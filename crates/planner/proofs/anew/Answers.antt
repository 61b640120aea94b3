-- `planner::anew` meets its contract. Assumes nothing.
use Rattle.ground.proofs.Names.{arith}
use Rattle.digits.specs.Digits.{cleared}
use Rattle.plans.proofs.Potential.{needs_le}
use Rattle.planner.proofs.anew.Goals as goal

pub overflow_add-result : goal.overflow_add-result
overflow_add-result c = omega (arith, c.plain.ensures, needs_le cleared c.args.wanted 16)
