-- `glyphs::segment_by_segment` meets its contract. Assumes nothing.
use Rattle.glyphs.proofs.Segments.{segment_by_segment}
use Rattle.glyphs.proofs.segment_by_segment.Tie as tie

pub segment_by_segment_spec : {M : Type 1} → Rattle.glyphs.proofs.segment_by_segment.Statement.statement M
segment_by_segment_spec = tie.close (tie.spec (λ c. segment_by_segment))
