-- `answers::segments_refused` meets its contract. Assumes nothing.
use Rattle.ground.proofs.Names.{refl, tabulate}
use Rattle.answers.proofs.segments_refused.Goals as goal

pub returns : goal.returns
unfolding tabulate
returns c = refl
