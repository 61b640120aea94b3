-- `chain::max6954_interrupt` meets its contract. Assumes nothing.
use Rattle.ground.proofs.Names.{refl}
use Rattle.refusals.proofs.RefusalLaws.{row_number}
use Rattle.calls.specs.Calls.{interrupt}
use Rattle.shapes.proofs.Asks.{asked, unasked}
use Rattle.chain.proofs.max6954_interrupt.Goals as goal

pub returns-in-Err : goal.returns-in-Err
returns-in-Err c = rw (rw c.from.ensures at c.interrupt_refused.ensures) (unasked c.args.chain.now c.args.driver (interrupt) c.interrupt_refusal-asked.ensures.own c.in-Err.ensures (row_number _))

pub returns-in-Ok : goal.returns-in-Ok
returns-in-Ok c = rw (c.interrupt.ensures) (asked c.args.chain.now c.args.driver (interrupt) c.interrupt_refusal-asked.ensures.own c.in-Ok.ensures _ refl)
