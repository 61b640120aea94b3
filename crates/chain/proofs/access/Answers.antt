-- `chain::access` meets its contract. Assumes nothing.
use Rattle.ground.proofs.Names.{◌≡◌, sym, ◌∙◌, length, rules}
use Rattle.refusals.specs.Numbers.{number_of}
use Rattle.refusals.proofs.RefusalLaws.{row_number}
use Rattle.pass.specs.Found.{access_by_arguments}
use Rattle.pass.proofs.AccessLaws.{late, access_early, access_late, access_done}
use Rattle.chain.proofs.access.Goals as goal

pub returns-in_err-access_by_arguments : goal.returns-in_err-access_by_arguments
returns-in_err-access_by_arguments c =
    let a = c.args in
    let e : number_of c.from_residual.result ≡ access_by_arguments (length a.chain.now) a.clocks (length a.sent.now) (length a.answer.now) = search rules in
    access_early a.chain.now a.clocks a.sent.now a.answer.now e (λ z. row_number _ (c.in_err-access_by_arguments.ensures ∙ (sym e ∙ z)))

pub returns-in_err-shift_words : goal.returns-in_err-shift_words
returns-in_err-shift_words c =
    let a = c.args in
    let e : number_of c.from_residual-in_err-shift_words.result ≡ late a.chain.now a.clocks a.sent.now a.answer.now = search rules in
    access_late a.chain.now a.clocks a.sent.now a.answer.now c.in_ok-access_by_arguments.ensures e (λ z. row_number _ (c.in_err-shift_words.ensures.0 ∙ (sym e ∙ z)))

pub returns : goal.returns
returns c =
    access_done c.args.chain.now c.args.clocks c.args.sent.now c.args.answer.now c.in_ok-access_by_arguments.ensures c.in_ok-shift_words.ensures.0 c.shift_words.ensures.1 c.shift.ensures.0 c.shift.ensures.1
    c.take_words.ensures
