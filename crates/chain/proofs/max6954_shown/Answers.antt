-- `chain::max6954_shown` meets its contract. Assumes nothing.
use Rattle.ground.proofs.Names.{refl}
use Rattle.refusals.proofs.RefusalLaws.{row_number}
use Rattle.calls.specs.Calls.{shown}
use Rattle.shapes.proofs.Asks.{asked, unasked}
use Rattle.chain.proofs.max6954_shown.Goals as goal

pub returns-in-Err : goal.returns-in-Err
returns-in-Err c = rw (rw c.from.ensures at c.shown_refused.ensures) (unasked c.args.chain.now c.args.driver (shown) c.shown_refusal-asked.ensures c.in-Err.ensures (row_number _))

pub returns-in-Ok : goal.returns-in-Ok
returns-in-Ok c = rw (c.shown.ensures) (asked c.args.chain.now c.args.driver (shown) c.shown_refusal-asked.ensures c.in-Ok.ensures _ refl)
