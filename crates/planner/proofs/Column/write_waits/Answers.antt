-- `planner::Column::write_waits` meets its contract. Assumes nothing.
use Rattle.ground.proofs.Names.{ℕ, ◌+◌, arith, length, replicate, length-replicate}
use Rattle.std.proofs.lemmas.List.{replicate-append-replicate}
use Rattle.planner.proofs.Puts.{puts_none, puts_append, room_after, room_less}
use Rattle.planner.proofs.Column.write_waits.Goals as goal

pub loop-init : goal.loop-init
loop-init c = puts_none c.args.self.now

pub write-requires : goal.write-requires
write-requires c =
    let l = c.loop in
    room_after c.args.self.now l.self (replicate l.counter 0) 1 l.invariant
    (room_less c.args.self.now (length (replicate l.counter 0) + 1) c.args.count (rw length-replicate (omega arith)) c.requires.1)

pub loop-preserved : goal.loop-preserved
loop-preserved c =
    let l = c.loop in
    rw (← replicate-append-replicate {A = ℕ} l.counter 1 0) (puts_append c.args.self.now l.self c.write.new.self (replicate l.counter 0) _ l.invariant c.write.ensures)
