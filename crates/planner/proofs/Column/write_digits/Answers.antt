-- `planner::Column::write_digits` meets its contract. Assumes nothing.
use Rattle.ground.proofs.Names.{add-one, arith}
use Rattle.plans.specs.Plan.{digit_words_at, steps}
use Rattle.planner.proofs.Puts.{puts_none, puts_append, room_for}
use Rattle.planner.proofs.Column.write_digits.Goals as goal

pub loop-k-init : goal.loop-k-init
unfolding steps
loop-k-init c = puts_none c.args.self.now

pub write_digit-requires : goal.write_digit-requires
write_digit-requires c =
    let l = c.loop-k in
    (omega arith, room_for c.args.self.now l.self c.args.held c.args.wanted l.k (omega arith) l.invariant c.requires)

pub loop-k-preserved : goal.loop-k-preserved
unfolding steps
loop-k-preserved c =
    let a = c.args in
    let l = c.loop-k in
    rw add-one (puts_append a.self.now l.self c.write_digit.new.self (steps a.held a.wanted l.k) (digit_words_at a.held a.wanted l.k) l.invariant c.write_digit.ensures)
