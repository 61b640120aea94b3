-- `script::lines::refusal_line` meets its contract. Assumes nothing.
use Rattle.text.proofs.Room.{written}
use Rattle.script.proofs.LineLaws.{refused_by}
use Rattle.script.proofs.lines.refusal_line.Goals as goal

pub returns : goal.returns
returns c =
    let r = c.refusal_line.ensures in let e = refused_by c.args.number c.requires.0 in
    written (rw e at r.place, rw e at r.room) c.requires.1
