-- `text::decimal` meets its contract. The invariant: the digits from a place on stand, and those of what is left are to come. Assumes nothing.
use Rattle.text.proofs.Digits.{Digits}
use Rattle.text.proofs.decimal.Given as goal

abbrev pub invariant-loop-left : goal.invariant-loop-left
invariant-loop-left l = Digits l.v l.digits l.place l.left

abbrev pub decreases-loop-left : goal.decreases-loop-left
decreases-loop-left l = l.left
