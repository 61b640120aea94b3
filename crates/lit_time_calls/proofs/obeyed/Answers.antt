-- `lit_time_calls::obeyed` meets its contract. Assumes nothing.
use Rattle.ground.proofs.Names.{sym}
use Rattle.printed.specs.Format.{call_of}
use Rattle.script_records.proofs.RowLaws.{ask_leaves}
use Rattle.lit_time_calls.proofs.CallLaws.{counted_none, ask_adds}
use Rattle.lit_time_calls.proofs.obeyed.Goals as goal

pub returns-in-Show : goal.returns-in-Show
returns-in-Show c =
    let a = c.args in
    rw c.in-Show.is (counted_none a.row (call_of 6 a.body.now) a.totals.now a.row (sym (ask_leaves a.row _ _)) (λ i. ask_adds a.row _ _ i))
