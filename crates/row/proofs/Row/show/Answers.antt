-- `row::Row::show` meets its contract. Assumes nothing.
use Rattle.ground.proofs.Names.{refl}
use Rattle.refusals.proofs.RefusalLaws.{row_number}
use Rattle.row.proofs.RowLaws.{show_refused, show_done}
use Rattle.row.proofs.Row.show.Goals as goal

pub returns-in-Err : goal.returns-in-Err
returns-in-Err c =
    let a = c.args in
    rw c.from.ensures (show_refused a.self a.driver a.cathode a.font14.now a.font16.now _ _ c.segments_refusal.ensures c.in-Err.ensures.number (row_number _))

pub returns-in-Ok : goal.returns-in-Ok
returns-in-Ok c =
    let a = c.args in
    rw (c.segments-answer.ensures, c.named-asked.ensures)
    (show_done a.self a.driver a.cathode a.font14.now a.font16.now _ _ c.segments_refusal.ensures c.in-Ok.ensures.number refl)
