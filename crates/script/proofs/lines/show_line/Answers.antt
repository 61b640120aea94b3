-- `script::lines::show_line` meets its contract. Assumes nothing.
use Rattle.ground.proofs.Names.{ℕ, ◌<◌, ◌∙◌, arith, sym, ◌≡◌, length, get_or, rules}
use Rattle.text.specs.Text.{each}
use Rattle.printed.specs.Lines.{letter, pin_text}
use Rattle.text.proofs.Room.{written, written_length, both_written_lem}
use Rattle.script.proofs.LineLaws.{letters}
use Rattle.script.proofs.lines.show_line.Goals as goal

pub returns : goal.returns
returns c =
    let pins = c.args.pins in
    let m = c.map.ensures.items in
    let n : length pins ≡ 19 = search rules in
    let same : (i : ℕ) → i < 19 → get_or c.map.result i 0 ≡ letter (get_or pins i 0) = λ i b. let a = m.at i 0 0 b in search rules in
    let e : c.map.result ≡ each pin_text pins = letters pins c.map.result (m.long ∙ sym n) (λ i b. same i (omega (arith, b, n))) in
    let v = written (c.put-start.ensures.place, c.put-start.ensures.room) (omega arith) in
    let w = written (c.put-end.ensures.place, c.put-end.ensures.room) (omega (arith, m.long, v.place, written_length _ _ _ _ _ v)) in
    let x = written (c.put.ensures.place, c.put.ensures.room) (omega (arith, m.long, v.place, w.place, written_length _ _ _ _ _ v, written_length _ _ _ _ _ w)) in
    both_written_lem _ _ _ _ _ _ _ _ v (both_written_lem _ _ _ _ _ _ _ _ (rw e at w) (rw c.mark_letter.ensures at x))
