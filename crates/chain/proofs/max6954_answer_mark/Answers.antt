-- `chain::max6954_answer_mark` meets its contract. Assumes nothing.
use Rattle.ground.proofs.Names.{refl}
use Rattle.refusals.proofs.RefusalLaws.{row_number}
use Rattle.calls.specs.Calls.{answer_mark}
use Rattle.shapes.proofs.Asks.{asked, unasked}
use Rattle.chain.proofs.max6954_answer_mark.Goals as goal

pub returns-in-Err : goal.returns-in-Err
returns-in-Err c = rw (rw c.from.ensures at c.mark_refused.ensures) (unasked c.args.chain.now c.args.driver (answer_mark) c.mark_refusal-asked.ensures.own c.in-Err.ensures (row_number _))

pub returns-in-Ok : goal.returns-in-Ok
returns-in-Ok c = rw (c.mark.ensures) (asked c.args.chain.now c.args.driver (answer_mark) c.mark_refusal-asked.ensures.own c.in-Ok.ensures _ refl)
