-- `lit_time_calls::run` meets its contract. Assumes nothing.
use Rattle.ground.proofs.Names.{◌*◌, arith, ◌≡◌, ◌∙◌, length, length-take-le}
use Rattle.script_records.proofs.PartLaws.{to_end}
use Rattle.lit_time_calls.proofs.AnswerLaws.{totals_over, served_totals}
use Rattle.lit_time_calls.proofs.run.Goals as goal

pub returns-clause-totals : goal.returns-clause-totals
returns-clause-totals c =
    let n = c.start_of-first.result.n in
    let room = c.if-totals-count.false in
    let l : length c.fill.new.self ≡ 8 * n = c.fill.ensures.len ∙ length-take-le (8 * n) c.args.totals.now room in
    served_totals c.args.script.now c.args.totals.now _ c.start_of-first.result c.start_of-first.ensures c.if-script-gt-LONGEST.false (omega arith) (omega arith) room
    (rw (to_end c.start_of-first.result.from c.args.script.now) at (totals_over _ _ l room c.run_records.ensures))
