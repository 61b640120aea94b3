-- `report_lines::total_line` meets its contract. Assumes nothing.
use Rattle.report_lines.proofs.LineLaws.{line_written}
use Rattle.report_lines.proofs.total_line.Goals as goal

pub returns : goal.returns
returns c =
    let w =
    line_written c.args.driver c.args.cathode c.args.total c.requires.0 c.requires.1 c.requires.2
    (c.decimal-first.ensures.place, c.decimal-first.ensures.room)
    (c.put-second.ensures.place, c.put-second.ensures.room)
    (c.decimal-third.ensures.place, c.decimal-third.ensures.room)
    (c.put-fourth.ensures.place, c.put-fourth.ensures.room)
    (c.decimal-fifth.ensures.place, c.decimal-fifth.ensures.room)
    (c.put.ensures.place, c.put.ensures.room) in
    record { line = w.0; short = w.1 }
