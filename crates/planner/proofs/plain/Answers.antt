-- `planner::plain` meets its contract. Assumes nothing.
use Rattle.ground.proofs.Names.{◌≤◌, add-one, arith, refl}
use Rattle.plans.specs.Least.{total}
use Rattle.plans.proofs.Potential.{need_le, needs_le}
use Rattle.planner.proofs.plain.Goals as goal

pub loop-k-init : goal.loop-k-init
unfolding total
loop-k-init c = refl

pub overflow_add-sum : goal.overflow_add-sum
overflow_add-sum c =
    let h : c.need-sum.result ≤ 2 = rw c.need-sum.ensures (search need_le) in
    omega (arith, h, needs_le c.args.held c.args.wanted c.loop-k.k)

pub loop-k-preserved : goal.loop-k-preserved
unfolding total
loop-k-preserved c = rw (add-one, c.need-sum.ensures, c.loop-k.invariant)
