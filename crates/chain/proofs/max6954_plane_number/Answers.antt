-- `chain::max6954_plane_number` meets its contract. Assumes nothing.
use Rattle.ground.proofs.Names.{ap, sym, ◌∙◌}
use Rattle.calls.specs.Calls.{plane}
use Rattle.pass.specs.Found.{call_refusal}
use Rattle.pass.proofs.FoundLaws.{ask_number}
use Rattle.chain.proofs.max6954_plane_number.Goals as goal

pub returns : goal.returns
returns c =
    let a = c.args in
    ask_number a.chain.now a.driver (plane a.p0.now a.p1.now a.first a.last)
    ∙ sym (c.number.ensures ∙ c.call_refusal.ensures ∙ ap (call_refusal a.chain.now a.driver) c.plane_refusal-asked.ensures)
