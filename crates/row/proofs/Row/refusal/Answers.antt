-- `row::Row::refusal` meets its contract. Assumes nothing.
use Rattle.ground.proofs.Names.{◌∙◌, refl, rules}
use Rattle.pass.specs.Own.{own_of}
use Rattle.row.proofs.Typed.{all_bytes}
use Rattle.row.proofs.RowLaws.{call_found, in_row}
use Rattle.row.proofs.Row.refusal.Goals as goal

pub returns-clause-number : goal.returns-clause-number
returns-clause-number c =
    let a = c.args in
    let n = c.length-n in
    c.found_by.ensures
    ∙ rw (c.named-d.ensures, c.seen-w.ensures)
    (call_found a.self n.result n.ensures.0 a.driver (own_of a.asked) 0 c.in_ok-by_arguments.ensures refl (all_bytes a.self _ c.well_formed.0 n.result))

pub returns-clause-there : goal.returns-clause-there
returns-clause-there c = in_row c.args.self (search rules) c.args.driver (own_of c.args.asked) _ (returns-clause-number c)
