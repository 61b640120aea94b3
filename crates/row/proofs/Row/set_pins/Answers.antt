-- `row::Row::set_pins` meets its contract. Assumes nothing.
use Rattle.ground.proofs.Names.{◌∙◌, refl}
use Rattle.refusals.proofs.RefusalLaws.{row_number}
use Rattle.calls.specs.Calls.{levels}
use Rattle.row.proofs.RowLaws.{give_refused, give_done}
use Rattle.row.proofs.Row.set_pins.Goals as goal

pub returns-in-Err : goal.returns-in-Err
returns-in-Err c =
    let a = c.args in
    c.refused.ensures ∙ give_refused a.self a.driver (levels a.levels) _ _ c.levels_refusal.ensures.own c.in-Err.ensures.number (row_number _)

pub returns-in-Ok : goal.returns-in-Ok
returns-in-Ok c =
    let a = c.args in
    rw (c.served.ensures, c.with_pins.ensures, c.named-old.ensures)
    (give_done a.self a.driver (levels a.levels) _ _ c.levels_refusal.ensures.own c.in-Ok.ensures.number refl)
