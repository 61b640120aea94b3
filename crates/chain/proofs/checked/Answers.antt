-- `chain::checked` meets its contract, by what refuses. Assumes nothing.
use Rattle.ground.proofs.Names.{sym, ◌∙◌}
use Rattle.refusals.specs.Numbers.{number_by}
use Rattle.refusals.proofs.RefusalLaws.{row_number}
use Rattle.redraw.proofs.CallLaws.{err_is, check_by_row, check_by_wanted, check_refused, check_served}
use Rattle.chain.proofs.checked.Goals as goal

pub returns-in_err-row_refusal : goal.returns-in_err-row_refusal
returns-in_err-row_refusal c =
    let a = c.args in
    let e = c.in_err-row_refusal.field-0.0 in
    rw (err_is c.from_residual.result e c.from_residual.ensures.1)
    (check_refused a.chain.now a.wanted.now a.list.now (number_by e)
    (check_by_row a.chain.now a.wanted.now a.list.now (number_by e) (sym c.in_err-row_refusal.ensures) (row_number e)) (row_number e))

pub returns-in_err-wanted_refusal : goal.returns-in_err-wanted_refusal
returns-in_err-wanted_refusal c =
    let a = c.args in
    let e = c.in_err-wanted_refusal.field-0.0 in
    rw (err_is c.from_residual-in_err-wanted_refusal.result e c.from_residual-in_err-wanted_refusal.ensures.1)
    (check_refused a.chain.now a.wanted.now a.list.now (number_by e)
    (check_by_wanted a.chain.now a.wanted.now a.list.now (sym c.in_ok-row_refusal.ensures) ∙ sym c.in_err-wanted_refusal.ensures) (row_number e))

pub returns : goal.returns
returns c =
    let a = c.args in
    rw c.accepted.ensures
    (check_served a.chain.now a.wanted.now a.list.now
    (check_by_wanted a.chain.now a.wanted.now a.list.now (sym c.in_ok-row_refusal.ensures) ∙ sym c.in_ok-wanted_refusal.ensures))
