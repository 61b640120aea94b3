-- `script::run` meets its contract. Assumes nothing.
use Rattle.ground.proofs.Names.{arith, lt-ltb}
use Rattle.script.proofs.StartLaws.{ran, printed_long, printed_items}
use Rattle.script.proofs.run.Goals as goal

pub returns-then-script-gt-LONGEST : goal.returns-then-script-gt-LONGEST
returns-then-script-gt-LONGEST c =
    let a = c.args in
    let r = c.room_for.ensures in
    let v = rw c.from.ensures at c.refusal_line.ensures in
    let long = c.if-script-gt-LONGEST.true in
    ran a.script.now a.out.now _ _ (rw (← r) c.if-out-room_for.false) (rw (printed_long a.script.now long) v) (omega (arith, v.place, rw (lt-ltb _ _ long) at r, c.if-out-room_for.false))

pub returns : goal.returns
returns c =
    let a = c.args in
    let r = c.room_for.ensures in
    let v = c.print.ensures in
    ran a.script.now a.out.now _ _ (rw (← r) c.if-out-room_for.false) (rw (printed_items a.script.now c.if-script-gt-LONGEST.false) v.0) v.1
