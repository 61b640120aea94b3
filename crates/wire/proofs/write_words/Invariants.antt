-- `wire::write_words` meets its contract. The invariant: i words are written, and the rest is as it was. Assumes nothing.
use Rattle.ground.proofs.Names.{◌-◌, drop, Filled}
use Rattle.wire.specs.Bits.{unpack, word_at}
use Rattle.wire.proofs.write_words.Given as goal

abbrev pub invariant-loop-i : goal.invariant-loop-i
invariant-loop-i l = Filled l.n (λ j. word_at (drop l.bit (unpack l.bytes)) (l.n - 1 - j)) l.initial.next l.next l.i
