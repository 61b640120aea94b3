-- `report_lines::total_lines` meets its contract. Assumes nothing.
use Rattle.report_lines.proofs.LineLaws.{lines_none, lines_more}
use Rattle.report_lines.proofs.total_lines.Goals as goal

pub loop-i-init : goal.loop-i-init
loop-i-init c = lines_none _ _ _

pub loop-i-preserved : goal.loop-i-preserved
loop-i-preserved c = lines_more _ _ c.loop-i.invariant c.loop-i-test.true c.total_line-at.ensures.line c.total_line-at.ensures.short
