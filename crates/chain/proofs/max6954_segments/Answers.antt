-- `chain::max6954_segments` meets its contract. Assumes nothing.
use Rattle.ground.proofs.Names.{refl}
use Rattle.refusals.proofs.RefusalLaws.{row_number}
use Rattle.calls.specs.Calls.{segments}
use Rattle.shapes.proofs.Asks.{asked_within, unasked}
use Rattle.chain.proofs.max6954_segments.Goals as goal

pub returns-in-Err : goal.returns-in-Err
returns-in-Err c = rw (rw c.from.ensures at c.segments_refused.ensures) (unasked c.args.chain.now c.args.driver (segments c.args.cathode c.args.font14.now c.args.font16.now) c.segments_refusal-asked.ensures c.in-Err.ensures (row_number _))

pub returns-in-Ok : goal.returns-in-Ok
returns-in-Ok c = rw c.segments.ensures (asked_within c.args.chain.now c.args.driver (segments c.args.cathode c.args.font14.now c.args.font16.now) c.segments_refusal-asked.ensures c.in-Ok.ensures _ refl refl)
