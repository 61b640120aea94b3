-- `shown_pins::segments` meets its contract. Assumes nothing.
use Rattle.ground.proofs.Names.{◌≡◌, tabulate, ne_eqb, sym, ap, ◌∙◌}
use Rattle.refusals.specs.Numbers.{number_by, number_of}
use Rattle.refusals.specs.Refusals.{segments_refusal}
use Rattle.refusals.proofs.RefusalLaws.{row_number}
use Rattle.shown_pins.proofs.segments.Goals as goal

pub returns-in-Err : goal.returns-in-Err
unfolding tabulate
returns-in-Err c =
    let a = c.args in
    let r = c.in-Err.refusal in
    let e : segments_refusal a.cathode a.font14.now a.font16.now ≡ number_by r = sym c.segments_refusal.ensures ∙ ap number_of c.in-Err.is in
    rw (c.from.ensures, e, ne_eqb (number_by r) 0 (row_number r))
