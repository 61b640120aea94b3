-- `report_lines::print_report` meets its contract. Assumes nothing.
use Rattle.ground.proofs.Names.{◌*◌, ◌≤◌, ◌≡◌, arith, refl, length, replicate, rules}
use Rattle.text.proofs.Room.{written}
use Rattle.script_records.proofs.LineLaws.{refusal_short}
use Rattle.report_lines.proofs.ReportLaws.{some_number, report_refused, report_served, first_lines, whole}
use Rattle.report_lines.proofs.print_report.Goals as goal

pub returns-in-Err : goal.returns-in-Err
returns-in-Err c =
    let a = c.args in
    let e = report_refused a.script.now (replicate 128 0) _ refl c.in-Err.ensures.answer (some_number c.in-Err.refusal) in
    let k = c.from.ensures in
    let n : length a.out.now ≡ 3328 = search rules in
    let w = written (c.refusal_line.ensures.place, c.refusal_line.ensures.room) (omega (arith, n, refusal_short c.from.result)) in
    let f = whole a.script.now a.out.now _ _ (rw (e, ← k) w) (omega (arith, n, w.place, refusal_short c.from.result)) in
    record { count = f.0; lines = f.1 }

pub returns-in-Ok : goal.returns-in-Ok
returns-in-Ok c =
    let a = c.args in
    let h : 8 * c.in-Ok.drivers ≤ length c.run.new.totals = search rules in
    let e = report_served a.script.now (replicate 128 0) c.run.new.totals _ refl c.in-Ok.ensures.answer c.run.ensures.totals refl in
    let f = whole a.script.now a.out.now _ _ (rw e (simp (← first_lines (8 * c.in-Ok.drivers) c.run.new.totals h) c.total_lines.ensures.lines)) c.total_lines.ensures.short in
    record { count = f.0; lines = f.1 }
