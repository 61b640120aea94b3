-- `chain::planned` meets its contract, by what refuses. Assumes nothing.
use Rattle.ground.proofs.Names.{sym, ◌∙◌}
use Rattle.refusals.specs.Numbers.{number_by}
use Rattle.refusals.proofs.RefusalLaws.{row_number}
use Rattle.redraw.proofs.CallLaws.{err_is, by_row, by_wanted, by_list, plan_refused, plan_served}
use Rattle.chain.proofs.planned.Goals as goal

pub returns-in_err-row_refusal : goal.returns-in_err-row_refusal
returns-in_err-row_refusal c =
    let a = c.args in
    let e = c.in_err-row_refusal.field-0.0 in
    rw (err_is c.from_residual.result e c.from_residual.ensures.1)
    (plan_refused a.chain.now a.wanted.now a.list.now (number_by e)
    (by_row a.chain.now a.wanted.now a.list.now (number_by e) (sym c.in_err-row_refusal.ensures) (row_number e)) (row_number e))

pub returns-in_err-wanted_refusal : goal.returns-in_err-wanted_refusal
returns-in_err-wanted_refusal c =
    let a = c.args in
    let e = c.in_err-wanted_refusal.field-0.0 in
    rw (err_is c.from_residual-in_err-wanted_refusal.result e c.from_residual-in_err-wanted_refusal.ensures.1)
    (plan_refused a.chain.now a.wanted.now a.list.now (number_by e)
    (by_wanted a.chain.now a.wanted.now a.list.now (number_by e) (sym c.in_ok-row_refusal.ensures) (sym c.in_err-wanted_refusal.ensures) (row_number e)) (row_number e))

pub returns-in_err-list_refusal : goal.returns-in_err-list_refusal
returns-in_err-list_refusal c =
    let a = c.args in
    let e = c.in_err-list_refusal.field-0.0 in
    rw (err_is c.from_residual-in_err-list_refusal.result e c.from_residual-in_err-list_refusal.ensures.1)
    (plan_refused a.chain.now a.wanted.now a.list.now (number_by e)
    (by_list a.chain.now a.wanted.now a.list.now (sym c.in_ok-row_refusal.ensures) (sym c.in_ok-wanted_refusal.ensures)
    ∙ sym (rw c.accesses-most.ensures at c.in_err-list_refusal.ensures)) (row_number e))

pub returns : goal.returns
returns c =
    let a = c.args in
    rw (c.write_list.ensures, c.accesses-most.ensures)
    (plan_served a.chain.now a.wanted.now a.list.now
    (by_list a.chain.now a.wanted.now a.list.now (sym c.in_ok-row_refusal.ensures) (sym c.in_ok-wanted_refusal.ensures)
    ∙ sym (rw c.accesses-most.ensures at c.in_ok-list_refusal.ensures)))
