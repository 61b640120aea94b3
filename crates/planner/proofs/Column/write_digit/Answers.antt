-- `planner::Column::write_digit` meets its contract. Assumes nothing.
use Rattle.ground.proofs.Names.{[], ◌∷◌, eq-eqb, ne_eqb}
use Rattle.plans.specs.Plan.{put0, put1}
use Rattle.planner.proofs.Puts.{puts_none, puts_append, room_after}
use Rattle.planner.proofs.Column.write_digit.Goals as goal

pub write-requires-else-x-y-2 : goal.write-requires-else-x-y-2
write-requires-else-x-y-2 c =
    let a = c.args in
    let w = c.in-false-false in
    room_after a.self.now c.write-else-x-y.new.self (c.digit_word-else-x-y.result ∷ []) 1 c.write-else-x-y.ensures
    (rw (ne_eqb a.a a.x w.is-0, ne_eqb a.b a.y w.is-1, ne_eqb a.x a.y c.if-x-y.false) at c.requires.1)

pub returns-in-true-true : goal.returns-in-true-true
returns-in-true-true c =
    let a = c.args in
    rw (eq-eqb a.a a.x c.in-true-true.is-0, eq-eqb a.b a.y c.in-true-true.is-1) (puts_none a.self.now)

pub returns-else-x-y : goal.returns-else-x-y
returns-else-x-y c =
    let a = c.args in
    let w = c.in-false-false in
    rw (ne_eqb a.a a.x w.is-0, ne_eqb a.b a.y w.is-1, ne_eqb a.x a.y c.if-x-y.false)
    (puts_append a.self.now c.write-else-x-y.new.self c.write-else-x-y-2.new.self (put0 a.k a.x ∷ []) (put1 a.k a.y ∷ [])
    (rw c.digit_word-else-x-y.ensures at c.write-else-x-y.ensures) (rw c.digit_word-else-x-y-2.ensures at c.write-else-x-y-2.ensures))
