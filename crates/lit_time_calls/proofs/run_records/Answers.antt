-- `lit_time_calls::run_records` meets its contract. Assumes nothing.
use Rattle.lit_time_calls.proofs.RunLaws.{run_starts, ready, space, goes_on, run_ends}
use Rattle.lit_time_calls.proofs.run_records.Goals as goal

pub loop-record-init : goal.loop-record-init
loop-record-init c = run_starts _ _ _ _ c.requires.n_bound.0 c.new-row.ensures c.requires.n_in_bounds.1

pub obeyed-row-requires-clause-table_value : goal.obeyed-row-requires-clause-table_value
obeyed-row-requires-clause-table_value c =
    let g = c.loop-record.invariant in
    let p = c.requires.n_bound in
    (p.2, ready g p.0 c.requires.n_in_bounds.0, space g c.in-Some.ensures.call p.1 (λ i. (c.type_inv.records i).fits))

pub loop-record-preserved : goal.loop-record-preserved
loop-record-preserved c = goes_on c.loop-record.invariant c.in-Some.ensures.call c.obeyed-row.ensures

pub returns : goal.returns
returns c = run_ends c.loop-record.invariant c.in_default.ensures.stop
