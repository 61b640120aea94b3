-- `script::run_records` meets its contract. Assumes nothing.
use Rattle.ground.proofs.Names.{length}
use Rattle.script.proofs.LoopLaws.{Running}
use Rattle.script.proofs.run_records.Given as goal

abbrev pub invariant-loop-record : goal.invariant-loop-record
invariant-loop-record l = Running l.records l.n l.first l.initial.out l.out l.row l.rest l.at

abbrev pub decreases-loop-record : goal.decreases-loop-record
decreases-loop-record l = length l.rest
