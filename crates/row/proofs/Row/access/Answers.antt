-- `row::Row::access` meets its contract. Assumes nothing.
use Rattle.ground.proofs.Names.{◌≡◌, ◌∙◌, ◌≤◌, arith, refl, length, rules}
use Rattle.refusals.proofs.RefusalLaws.{row_number}
use Rattle.calls.specs.Calls.{access}
use Rattle.pass.proofs.AccessLaws.{front_words, front_room}
use Rattle.row.specs.Row.{number_on}
use Rattle.row.proofs.RowLaws.{access_found, access_refused, access_done}
use Rattle.row.proofs.Row.access.Goals as goal

pub returns-in-Err : goal.returns-in-Err
returns-in-Err c =
    let a = c.args in
    rw c.refused.ensures (access_refused a.self a.clocks a.sent.now a.room.now _ (c.in-Err.ensures ∙ access_found a.self _ refl a.clocks a.sent.now a.room.now _ refl) (row_number _))

pub returns-in-Ok : goal.returns-in-Ok
returns-in-Ok c =
    let a = c.args in
    let n = c.length-n in
    let ws = c.shift_words-words.result in
    let sixteen : length ws ≡ 16 = search rules in
    let h : n.result ≤ length ws = omega (arith, n.ensures, sixteen) in
    let number : 0 ≡ number_on a.self (access a.clocks a.sent.now a.room.now) = c.in-Ok.ensures ∙ access_found a.self _ refl a.clocks a.sent.now a.room.now _ refl in
    rw (c.all_taken.ensures, c.shift.ensures.0, c.shift.ensures.1 ∙ front_room ws n.result a.clocks a.sent.now a.room.now h, front_words ws n.result a.clocks a.sent.now a.room.now h, c.shift_words-words.ensures, n.ensures.0)
    (access_done a.self a.clocks a.sent.now a.room.now _ number refl)
