-- `script::shown` meets its contract. Assumes nothing.
use Rattle.ground.proofs.Names.{arith, rules}
use Rattle.calls.specs.Calls.{segments}
use Rattle.printed.specs.Format.{byte, test_table}
use Rattle.script.proofs.RunLaws.{small_shown, show_served, show_refused}
use Rattle.script.proofs.LineLaws.{decimal_short}
use Rattle.script.proofs.shown.Goals as goal

pub returns-then-number-eq0 : goal.returns-then-number-eq0
returns-then-number-eq0 c =
    let a = c.args in
    let s = c.show-answer in
    show_served a.row (byte a.body.now 0) (segments (byte a.body.now 1) test_table test_table) 7 a.at _ _ s.result _
    (rw (c.byte-driver.ensures, c.byte-cathode.ensures, c.requires.0) at s.ensures) c.if-number-eq0.true (search rules) (omega arith) c.show_line-end.ensures

pub returns : goal.returns
returns c =
    let a = c.args in
    let s = c.show-answer in
    show_refused a.row (byte a.body.now 0) (segments (byte a.body.now 1) test_table test_table) 7 a.at _ _ s.result _
    (rw (c.byte-driver.ensures, c.byte-cathode.ensures, c.requires.0) at s.ensures) c.if-number-eq0.false (omega arith) c.refusal_line-end.ensures

pub refusal_line-end-requires : goal.refusal_line-end-requires
refusal_line-end-requires c = (small_shown _ _ _ _ c.show-answer.ensures, omega (arith, decimal_short c.show-answer.result.number))
