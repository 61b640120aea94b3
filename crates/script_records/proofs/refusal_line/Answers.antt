-- `script_records::refusal_line` meets its contract. Assumes nothing.
use Rattle.ground.proofs.Names.{◌≡◌, sym, take, length-take-le}
use Rattle.text.specs.Text.{refusal_line}
use Rattle.script_records.proofs.LineLaws.{line_made}
use Rattle.script_records.proofs.refusal_line.Goals as goal

pub slice_bounds-line-end : goal.slice_bounds-line-end
slice_bounds-line-end c =
    (line_made c.args.number (c.put-first.ensures.place, c.put-first.ensures.room) (c.decimal-second.ensures.place, c.decimal-second.ensures.room)
    (c.put-end.ensures.place, c.put-end.ensures.room)).1

pub slice_bounds-put-end-5 : goal.slice_bounds-put-end-5
slice_bounds-put-end-5 c =
    sym (length-take-le _ _
    (line_made c.args.number (c.put-first.ensures.place, c.put-first.ensures.room) (c.decimal-second.ensures.place, c.decimal-second.ensures.room)
    (c.put-end.ensures.place, c.put-end.ensures.room)).1)

pub returns : goal.returns
returns c =
    let line : take c.put-end.result c.put-end.new.out ≡ refusal_line c.args.number =
    (line_made c.args.number (c.put-first.ensures.place, c.put-first.ensures.room) (c.decimal-second.ensures.place, c.decimal-second.ensures.room)
    (c.put-end.ensures.place, c.put-end.ensures.room)).0 in
    rw line at c.put.ensures
