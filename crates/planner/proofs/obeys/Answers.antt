-- `planner::obeys` meets its contract, by the word as it is decoded. Assumes nothing.
use Rattle.ground.proofs.Names.{◌/◌, ◌%◌, arith, sym, ◌∙◌, eq-eqb, ne_eqb}
use Rattle.planner.proofs.ActWord.{decides}
use Rattle.planner.proofs.obeys.Goals as goal

pub returns-in-NoOp : goal.returns-in-NoOp
returns-in-NoOp c = rw (sym c.decode.ensures ∙ c.in-Write.is, c.in-NoOp.is) at (decides c.args.c c.args.held.now c.args.word (omega arith))

pub returns-in-P0 : goal.returns-in-P0
returns-in-P0 c = rw c.put.ensures (rw (sym c.decode.ensures ∙ c.in-Write.is, c.in-Digit.is, c.in-P0.is) at (decides c.args.c c.args.held.now c.args.word (omega arith)))

pub returns-in-P1 : goal.returns-in-P1
returns-in-P1 c = rw c.put-in-P1.ensures (rw (sym c.decode.ensures ∙ c.in-Write.is, c.in-Digit.is, c.in-P1.is) at (decides c.args.c c.args.held.now c.args.word (omega arith)))

pub returns-in-BothPlanes : goal.returns-in-BothPlanes
returns-in-BothPlanes c =
    rw (c.put-in-BothPlanes.ensures, c.put-in-BothPlanes-2.ensures)
    (rw (sym c.decode.ensures ∙ c.in-Write.is, c.in-BothPlanes.is) at (decides c.args.c c.args.held.now c.args.word (omega arith)))

pub returns-then-v-eq1 : goal.returns-then-v-eq1
returns-then-v-eq1 c =
    let v = c.in-Write.v in
    rw (sym c.decode.ensures ∙ c.in-Write.is, c.in-Configuration.is, sym c.keeps.ensures ∙ c.if-not-keeps.false, eq-eqb (v / 32 % 2) 1 c.if-v-eq1.true) at
    (decides c.args.c c.args.held.now c.args.word (omega arith))

pub returns-else-v-eq1 : goal.returns-else-v-eq1
returns-else-v-eq1 c =
    let v = c.in-Write.v in
    rw (sym c.decode.ensures ∙ c.in-Write.is, c.in-Configuration.is, sym c.keeps.ensures ∙ c.if-not-keeps.false, ne_eqb (v / 32 % 2) 1 c.if-v-eq1.false) at
    (decides c.args.c c.args.held.now c.args.word (omega arith))
