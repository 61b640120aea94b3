-- `report_lines::total_lines` meets its contract. Assumes nothing.
use Rattle.ground.proofs.Names.{◌+◌, ◌/◌, ◌%◌, get_or, length}
use Rattle.lit_time.specs.Report.{total_line}
use Rattle.report_lines.proofs.LineLaws.{Lines}
use Rattle.report_lines.proofs.total_lines.Given as goal

abbrev pub invariant-loop-i : goal.invariant-loop-i
invariant-loop-i l = Lines (λ k. total_line (k / 8 + 1) (k % 8) (get_or l.totals k 0)) (length l.totals) l.initial.out l.out l.at l.i
