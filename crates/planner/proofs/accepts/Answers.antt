-- `planner::accepts` meets its contract. Assumes nothing.
use Rattle.ground.proofs.Names.{arith, sym, ap, ◌∙◌, lt-ltb}
use Rattle.digits.specs.declared.Planes.{Planes}
use Rattle.plans.specs.Lists.{words_at}
use Rattle.planner.specs.OneDriver.{from_planes}
use Rattle.planner.proofs.CheckLaws.{some_taken, words_planes}
use Rattle.planner.proofs.accepts.Goals as goal

pub returns-in-Some : goal.returns-in-Some
returns-in-Some c =
    let a = c.args in
    let x = a.d.now.registers in
    let t = some_taken _ _ _ (sym c.in-Some.ensures) in
    rw (c.if-each.true, lt-ltb a.i a.n (omega arith), lt-ltb a.n 17 (omega arith), t.0, words_planes)
    (c.own_accepted.ensures ∙ ap (λ (q : Planes). from_planes x.config q x.planes (words_at a.n a.list.now a.i)) (sym t.1))
