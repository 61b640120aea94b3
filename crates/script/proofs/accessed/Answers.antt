-- `script::accessed` meets its contract. Assumes nothing.
use Rattle.ground.proofs.Names.{◌≤◌, arith, sym, ap, ◌∙◌, length-take-le, length, drop, length-drop}
use Rattle.refusals.specs.Refusals.{bytes_for}
use Rattle.calls.specs.Calls.{access}
use Rattle.row.specs.declared.Done.{Done}
use Rattle.printed.specs.Format.{word, answer_room}
use Rattle.script.proofs.RunLaws.{access_fits, answered, refused, small_done}
use Rattle.script.proofs.LineLaws.{decimal_short}
use Rattle.script.proofs.accessed.Goals as goal

pub slice_bounds-room-end : goal.slice_bounds-room-end
slice_bounds-room-end c =
    let d = c.access-done.ensures in
    let f = access_fits c.args.row _ _ _ (ap (λ (x : Done). x.number) (sym d.done) ∙ c.if-number-eq0.true) in
    omega (arith, f.0)

pub slice_bounds-answer_line-end : goal.slice_bounds-answer_line-end
slice_bounds-answer_line-end c =
    let d = c.access-done.ensures in
    let f = access_fits c.args.row _ _ _ (ap (λ (x : Done). x.number) (sym d.done) ∙ c.if-number-eq0.true) in
    let h : bytes_for c.word-clocks.result ≤ length c.access-done.new.room = omega (arith, f.0) in
    sym (length-take-le _ _ h)

pub answer_line-end-requires : goal.answer_line-end-requires
answer_line-end-requires c =
    let d = c.access-done.ensures in
    let f = access_fits c.args.row _ _ _ (ap (λ (x : Done). x.number) (sym d.done) ∙ c.if-number-eq0.true) in
    let h : bytes_for c.word-clocks.result ≤ length c.access-done.new.room = omega (arith, f.0) in
    let body = c.args.body.now in
    let g : bytes_for c.word-clocks.result ≤ length (drop 2 body) = rw c.word-clocks.ensures.0 f.1 in
    let t = length-take-le (bytes_for c.word-clocks.result) c.access-done.new.room h in
    omega (arith, g, length-drop 2 body, t)

pub returns-then-number-eq0 : goal.returns-then-number-eq0
returns-then-number-eq0 c =
    let a = c.args in
    let w = c.word-clocks.ensures.0 in
    let d = c.access-done.ensures in
    answered a.row (word a.body.now 0) (drop 2 a.body.now) answer_room _ a.at _ _ _ c.access-done.result _ (d.done) c.if-number-eq0.true (d.answer) (simp length-drop (omega arith)) (rw w at c.answer_line-end.ensures)

pub returns : goal.returns
returns c =
    let a = c.args in
    let w = c.word-clocks.ensures.0 in
    let d = c.access-done.ensures in
    refused a.row (access (word a.body.now 0) (drop 2 a.body.now) answer_room) _ a.at _ _ c.access-done.result (d.done) _ (omega arith) c.if-number-eq0.false c.refusal_line-end.ensures

pub refusal_line-end-requires : goal.refusal_line-end-requires
refusal_line-end-requires c = (small_done _ _ _ c.access-done.ensures.done, omega (arith, decimal_short c.access-done.result.number))
