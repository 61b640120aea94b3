-- `lent::take_words` meets its contract. The invariant: the records so far took their words, the others are as they were. Assumes nothing.
use Rattle.ground.proofs.Names.{◌≡◌}
use Rattle.pass.specs.OneByOne.{taken_to}
use Rattle.lent.proofs.take_words.Given as goal

abbrev pub invariant-loop-i : goal.invariant-loop-i
invariant-loop-i l = (l.chain ≡ taken_to l.fn.chain l.words l.i)
