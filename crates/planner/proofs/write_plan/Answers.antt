-- `planner::write_plan` meets its contract, by the laws of a list with a plan's words. Assumes nothing.
use Rattle.ground.proofs.Names.{[], ◌∷◌, ◌+◌, ◌-◌, arith, length}
use Rattle.digits.specs.Digits.{cleared}
use Rattle.plans.specs.Least.{plain}
use Rattle.plans.specs.Plan.{clear_word, steps}
use Rattle.plans.proofs.Planner.{length_steps}
use Rattle.planner.proofs.Puts.{puts_append, room_after, room_less}
use Rattle.planner.proofs.Room.{kept_many, anew_many, kept_fits, anew_fits}
use Rattle.planner.proofs.write_plan.Goals as goal

pub write_waits-requires : goal.write_waits-requires
write_waits-requires c =
    let a = c.args in (
      omega arith,
      room_after a.column.now c.write_digits.new.self (steps a.held a.wanted 16) (a.k - c.plain-kept.result) c.write_digits.ensures
          (room_less a.column.now (length (steps a.held a.wanted 16) + (a.k - c.plain-kept.result)) a.k (omega (arith, length_steps a.held a.wanted 16, c.plain-kept.ensures)) c.requires.1),
    )

pub write_digits-requires-then-cleared-k : goal.write_digits-requires-then-cleared-k
write_digits-requires-then-cleared-k c =
    let a = c.args in
    room_after a.column.now c.write.new.self (c.clear_word.result ∷ []) (plain cleared a.wanted) c.write.ensures
    (room_less a.column.now (1 + plain cleared a.wanted) a.k (omega (arith, c.anew-cleared.ensures)) c.requires.1)

pub write_waits-requires-then-cleared-k : goal.write_waits-requires-then-cleared-k
write_waits-requires-then-cleared-k c =
    let a = c.args in
    let w = c.write_digits-then-cleared-k in (
      omega arith,
      room_after a.column.now w.new.self (c.clear_word.result ∷ steps cleared a.wanted 16) (a.k - c.anew-cleared.result)
          (puts_append a.column.now c.write.new.self w.new.self (c.clear_word.result ∷ []) (steps cleared a.wanted 16) c.write.ensures w.ensures)
          (room_less a.column.now (length (c.clear_word.result ∷ steps cleared a.wanted 16) + (a.k - c.anew-cleared.result)) a.k
          (omega (arith, length_steps cleared a.wanted 16, c.anew-cleared.ensures)) c.requires.1),
    )

pub returns-then-kept-k-clause-planned : goal.returns-then-kept-k-clause-planned
returns-then-kept-k-clause-planned c =
    let a = c.args in
    let l = a.column.now in
    kept_fits l.list.now l.n a.k l.at a.held a.config a.wanted _ _ c.plain-kept.ensures c.anew-cleared.ensures (omega arith) c.if-kept-k.true _
    (puts_append l c.write_digits.new.self c.write_waits.new.self _ _ c.write_digits.ensures c.write_waits.ensures).1

pub returns-else-kept-k-clause-planned : goal.returns-else-kept-k-clause-planned
returns-else-kept-k-clause-planned c =
    let a = c.args in
    let l = a.column.now in
    kept_many l.list.now l.n a.k l.at a.held a.config a.wanted _ _ c.plain-kept.ensures c.anew-cleared.ensures (omega arith) c.if-kept-k.false

pub returns-then-cleared-k-clause-planned : goal.returns-then-cleared-k-clause-planned
returns-then-cleared-k-clause-planned c =
    let a = c.args in
    let l = a.column.now in
    let w = c.write_digits-then-cleared-k in
    let f = puts_append l c.write.new.self w.new.self (clear_word a.config ∷ []) (steps cleared a.wanted 16) (rw c.clear_word.ensures at c.write.ensures) w.ensures in
    anew_fits l.list.now l.n a.k l.at a.held a.config a.wanted _ _ c.plain-kept.ensures c.anew-cleared.ensures (omega arith) c.if-cleared-k.true _
    (puts_append l w.new.self c.write_waits-then-cleared-k.new.self _ _ f c.write_waits-then-cleared-k.ensures).1

pub returns-else-cleared-k-clause-planned : goal.returns-else-cleared-k-clause-planned
returns-else-cleared-k-clause-planned c =
    let a = c.args in
    let l = a.column.now in
    anew_many l.list.now l.n a.k l.at a.held a.config a.wanted _ _ c.plain-kept.ensures c.anew-cleared.ensures (omega arith) c.if-cleared-k.false
