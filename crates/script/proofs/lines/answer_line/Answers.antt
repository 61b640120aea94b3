-- `script::lines::answer_line` meets its contract. Assumes nothing.
use Rattle.ground.proofs.Names.{arith, rules, ◌≡◌, refl, length}
use Rattle.printed.specs.Lines.{hex_byte}
use Rattle.text.proofs.Room.{written, written_length, both_written_lem}
use Rattle.text.proofs.Texts.{length_each}
use Rattle.script.proofs.LineLaws.{answer_none, answer_some}
use Rattle.script.proofs.lines.answer_line.Goals as goal

pub returns-then-is_empty : goal.returns-then-is_empty
returns-then-is_empty c =
    let z : length c.args.bytes.now ≡ 0 = search rules in rw (answer_none c.args.bytes.now z) (written (c.put.ensures.place, c.put.ensures.room) (omega arith))

pub hex_bytes-end-requires : goal.hex_bytes-end-requires
hex_bytes-end-requires c =
    let v = written (c.put-start.ensures.place, c.put-start.ensures.room) (omega arith) in omega (arith, v.place, written_length _ _ _ _ _ v)

pub returns : goal.returns
returns c =
    let l = length_each hex_byte 2 (λ x. refl) c.args.bytes.now in
    let v = written (c.put-start.ensures.place, c.put-start.ensures.room) (omega arith) in
    let w = c.hex_bytes-end.ensures in
    let x = written (c.put-2.ensures.place, c.put-2.ensures.room) (omega (arith, l, v.place, w.place, written_length _ _ _ _ _ v, written_length _ _ _ _ _ w)) in
    let n : length c.args.bytes.now ≡ 0 → ⊥ = search rules in rw (answer_some c.args.bytes.now n) (both_written_lem _ _ _ _ _ _ _ _ v (both_written_lem _ _ _ _ _ _ _ _ w x))
