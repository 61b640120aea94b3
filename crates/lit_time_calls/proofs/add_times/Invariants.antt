-- `lit_time_calls::add_times` meets its contract. The invariant: d totals are added to. Assumes nothing.
use Rattle.ground.proofs.Names.{◌≤◌, get_or}
use Rattle.lit_time_calls.specs.Progress.{Added}
use Rattle.lit_time_calls.proofs.add_times.Given as goal

abbrev pub invariant-loop-d : goal.invariant-loop-d
invariant-loop-d l = (l.d ≤ 8) × Added l.d (λ e. get_or l.time-items e 0) l.at l.initial.totals l.totals
