-- `planner::own_accepted` meets its contract. The invariant: the accesses that are left decide by the planes so far. Assumes nothing.
use Rattle.ground.proofs.Names.{◌≡◌}
use Rattle.std.specs.Slice.Iter.{chunks_exact_rest, chunks_exact_size}
use Rattle.plans.specs.Lists.{words_at}
use Rattle.planner.specs.OneDriver.{from_planes}
use Rattle.planner.proofs.own_accepted.Given as goal

abbrev pub invariant-loop-access : goal.invariant-loop-access
invariant-loop-access l =
    let c = l.d.registers.config in
    (chunks_exact_size l.access-iterator ≡ l.n)
    × (from_planes c l.wanted l.d.registers.planes (words_at l.n l.list l.i) ≡ from_planes c l.wanted l.held (words_at l.n (chunks_exact_rest l.access-iterator) l.i))
