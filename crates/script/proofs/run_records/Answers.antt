-- `script::run_records` meets its contract. Assumes nothing.
use Rattle.ground.proofs.Names.{rules}
use Rattle.script.proofs.LoopLaws.{run_starts, goes_on, run_ends, stops}
use Rattle.script.proofs.run_records.Goals as goal

pub loop-record-init : goal.loop-record-init
loop-record-init c = let p = c.requires in run_starts _ _ _ _ _ p.2 p.0 c.new-row.ensures

pub loop-record-preserved : goal.loop-record-preserved
loop-record-preserved c = goes_on c.loop-record.invariant c.in-Some.ensures.call c.obeyed-p.ensures

pub returns-then-is_empty : goal.returns-then-is_empty
returns-then-is_empty c = run_ends c.loop-record.invariant (search rules)

pub returns : goal.returns
returns c = stops c.loop-record.invariant c.in_default.ensures.stop (search rules) (rw c.from.ensures at c.refusal_line.ensures)
