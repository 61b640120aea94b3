-- `script::lines::chain_line` meets its contract. Assumes nothing.
use Rattle.ground.proofs.Names.{arith}
use Rattle.text.proofs.Room.{written, written_length, both_written_lem}
use Rattle.text.proofs.Digits.{two_places}
use Rattle.script.proofs.LineLaws.{two_digits}
use Rattle.script.proofs.lines.chain_line.Goals as goal

pub returns : goal.returns
returns c =
    let n = c.args.n in
    let two = two_places n c.requires.0 in
    let v = written (c.put-start.ensures.place, c.put-start.ensures.room) (omega arith) in
    let w = written (c.decimal-end.ensures.place, c.decimal-end.ensures.room) (omega (arith, two, v.place, written_length _ _ _ _ _ v)) in
    let x = written (c.put.ensures.place, c.put.ensures.room) (omega (arith, two, v.place, w.place, written_length _ _ _ _ _ v, written_length _ _ _ _ _ w)) in
    both_written_lem _ _ _ _ _ _ _ _ v (rw (two_digits n c.requires.0) at (both_written_lem _ _ _ _ _ _ _ _ w x))
