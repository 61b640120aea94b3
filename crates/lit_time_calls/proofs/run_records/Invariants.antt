-- `lit_time_calls::run_records` meets its contract. Assumes nothing.
use Rattle.ground.proofs.Names.{length}
use Rattle.lit_time_calls.proofs.RunLaws.{Running}
use Rattle.lit_time_calls.proofs.run_records.Given as goal

abbrev pub invariant-loop-record : goal.invariant-loop-record
invariant-loop-record l = Running l.records l.n l.initial.totals l.totals l.row l.rest

abbrev pub decreases-loop-record : goal.decreases-loop-record
decreases-loop-record l = length l.rest
