-- `row::Row::add_clocks` meets its contract. Assumes nothing.
use Rattle.ground.proofs.Names.{◌∙◌, refl}
use Rattle.refusals.proofs.RefusalLaws.{row_number}
use Rattle.calls.specs.Calls.{clocks}
use Rattle.row.proofs.RowLaws.{give_refused, give_done}
use Rattle.row.proofs.Row.add_clocks.Goals as goal

pub returns-in-Err : goal.returns-in-Err
returns-in-Err c =
    let a = c.args in
    c.refused.ensures ∙ give_refused a.self a.driver (clocks a.clocks) _ _ c.clocks_refusal.ensures c.in-Err.ensures.number (row_number _)

pub returns-in-Ok : goal.returns-in-Ok
returns-in-Ok c =
    let a = c.args in
    rw (c.served.ensures, c.clocked.ensures, c.named-old.ensures)
    (give_done a.self a.driver (clocks a.clocks) _ _ c.clocks_refusal.ensures c.in-Ok.ensures.number refl)
