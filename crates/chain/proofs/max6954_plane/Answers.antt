-- `chain::max6954_plane` meets its contract. Assumes nothing.
use Rattle.ground.proofs.Names.{refl, ap, sym, ◌∙◌}
use Rattle.refusals.proofs.RefusalLaws.{row_number}
use Rattle.calls.specs.Calls.{plane}
use Rattle.calls.specs.Outcome.{Outcome}
use Rattle.shapes.proofs.Asks.{asked, unasked}
use Rattle.chain.proofs.max6954_plane.Goals as goal

pub returns-in-Err : goal.returns-in-Err
returns-in-Err c = ap (λ (o : Outcome). o.back) (unasked c.args.chain.now c.args.driver (plane c.args.p0.now c.args.p1.now c.args.first c.args.last) c.plane_refusal-asked.ensures c.in-Err.ensures (row_number _)) ∙ sym c.plane_refused.ensures

pub returns-in-Ok : goal.returns-in-Ok
returns-in-Ok c = ap (λ (o : Outcome). o.back) (asked c.args.chain.now c.args.driver (plane c.args.p0.now c.args.p1.now c.args.first c.args.last) c.plane_refusal-asked.ensures c.in-Ok.ensures _ refl) ∙ sym c.plane.ensures
