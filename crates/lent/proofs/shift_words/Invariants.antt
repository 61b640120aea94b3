-- `lent::shift_words` meets its contract. The invariant: what the records so far tell, that their bytes are bytes, and their shift words in front of the words
-- lent. Assumes nothing.
use Rattle.ground.proofs.Names.{◌≡◌, take}
use Rattle.pass.specs.Widths.{no_widths, widths_of, AllBytes}
use Rattle.pass.specs.OneByOne.{words_to}
use Rattle.lent.proofs.shift_words.Given as goal

abbrev pub invariant-loop-i : goal.invariant-loop-i
invariant-loop-i l = (l.w ≡ widths_of no_widths (take l.i l.chain)) × AllBytes (take l.i l.chain) × (l.words ≡ words_to l.chain l.fn.words l.i)
