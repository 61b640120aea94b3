-- `wire::write_words` meets its contract. The invariant: i words are written, and the rest is as it was. Assumes nothing.
use Rattle.ground.proofs.Names.{arith, append-nil, ◌≡◌, [], ◌∙◌, length, drop, drop-drop, drop_of_length-le, filled_start, filled_more, filled_all}
use Rattle.wire.specs.Bits.{word_at}
use Rattle.wire.specs.Wire.{words}
use Rattle.wire.proofs.write_words.Goals as goal

pub loop-i-init : goal.loop-i-init
loop-i-init c = filled_start

pub loop-i-preserved : goal.loop-i-preserved
unfolding word_at
loop-i-preserved c = filled_more _ c.loop-i.invariant (omega arith) (omega arith) (rw drop-drop c.word_from.ensures)

pub returns : goal.returns
unfolding words
returns c =
    let none : drop (length c.args.next.now) c.args.next.now ≡ [] = drop_of_length-le c.args.next.now (omega arith) in
    filled_all c.loop-i.invariant (omega arith) ∙ rw (none, append-nil)
