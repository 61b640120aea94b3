-- `row::Row::found` meets its contract. Assumes nothing.
use Rattle.ground.proofs.Names.{◌≡◌, ◌∙◌, refl, sym, length, ne_eqb, rules}
use Rattle.refusals.specs.Numbers.{number_of}
use Rattle.refusals.proofs.RefusalLaws.{row_number}
use Rattle.pass.specs.Found.{access_by_arguments}
use Rattle.row.specs.Row.{records}
use Rattle.row.proofs.Typed.{all_bytes}
use Rattle.row.proofs.RowLaws.{number_found}
use Rattle.row.proofs.Row.found.Goals as goal

pub returns-in_err-access_by_arguments : goal.returns-in_err-access_by_arguments
returns-in_err-access_by_arguments c =
    let a = c.args in
    let e : number_of c.from_residual.result ≡ access_by_arguments c.length-n.result a.clocks a.sent a.room = search rules in
    let e' = rw c.length-n.ensures.0 at e in
    let r = rw c.length-n.ensures.0 at c.in_err-access_by_arguments.ensures in
    rw (ne_eqb (access_by_arguments (length (records a.self)) a.clocks a.sent a.room) 0 (λ z. row_number _ (r ∙ z))) e'

pub returns : goal.returns
returns c =
    let a = c.args in
    let n = c.length-n in
    let z : access_by_arguments n.result a.clocks a.sent a.room ≡ 0 = sym c.in_ok-access_by_arguments.ensures in
    let z' = rw n.ensures.0 at z in
    rw z' (c.found.ensures ∙ rw c.seen.ensures (number_found a.self _ n.ensures.0 0 n.result refl (all_bytes a.self _ c.well_formed.0 n.result)))
