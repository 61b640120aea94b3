-- `chain::max6954_plane_shown` meets its contract. Assumes nothing.
use Rattle.ground.proofs.Names.{refl}
use Rattle.refusals.proofs.RefusalLaws.{row_number}
use Rattle.calls.specs.Calls.{plane_shown}
use Rattle.shapes.proofs.Asks.{asked, unasked}
use Rattle.chain.proofs.max6954_plane_shown.Goals as goal

pub returns-in-Err : goal.returns-in-Err
returns-in-Err c = rw (rw c.from.ensures at c.plane_shown_refused.ensures) (unasked c.args.chain.now c.args.driver (plane_shown c.args.p0.now c.args.p1.now c.args.first c.args.last) c.plane_refusal-asked.ensures c.in-Err.ensures (row_number _))

pub returns-in-Ok : goal.returns-in-Ok
returns-in-Ok c = rw (c.plane_shown.ensures) (asked c.args.chain.now c.args.driver (plane_shown c.args.p0.now c.args.p1.now c.args.first c.args.last) c.plane_refusal-asked.ensures c.in-Ok.ensures _ refl)
