-- `planner::Column::write` meets its contract. Assumes nothing.
use Rattle.ground.proofs.Names.{arith, refl}
use Rattle.planner.specs.OneDriver.{put}
use Rattle.planner.proofs.Column.write.Goals as goal

pub returns : goal.returns
unfolding put
returns c = (refl, refl, refl, omega arith)
