-- `chain::max6954_brightness` meets its contract. Assumes nothing.
use Rattle.ground.proofs.Names.{refl}
use Rattle.refusals.proofs.RefusalLaws.{row_number}
use Rattle.calls.specs.Calls.{brightness}
use Rattle.shapes.proofs.Asks.{asked, unasked, question_there}
use Rattle.chain.proofs.max6954_brightness.Goals as goal

pub returns-in-Err : goal.returns-in-Err
returns-in-Err c = rw (rw c.from.ensures at c.brightness_refused.ensures) (unasked c.args.chain.now c.args.driver (brightness c.args.digit) c.brightness_refusal-asked.ensures c.in-Err.ensures (row_number _))

pub returns-in-Ok : goal.returns-in-Ok
returns-in-Ok c = rw (c.brightness.ensures, question_there c.args.chain.now c.args.driver (brightness c.args.digit) c.brightness_refusal-asked.ensures c.in-Ok.ensures refl) (asked c.args.chain.now c.args.driver (brightness c.args.digit) c.brightness_refusal-asked.ensures c.in-Ok.ensures _ refl)
