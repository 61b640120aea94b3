-- `row::Row::shift_words` meets its contract. The invariant: the words of the first i records. Assumes nothing.
use Rattle.ground.proofs.Names.{get_or, Filled}
use Rattle.device.specs.PowerUp.{power_up}
use Rattle.row.proofs.Row.shift_words.Given as goal

abbrev pub invariant-loop-k : goal.invariant-loop-k
invariant-loop-k l = Filled l.n (λ i. (get_or l.self.devices i power_up).shift) l.initial.words l.words l.k
