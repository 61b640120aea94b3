-- `calls::answer_mark` meets its contract. Assumes nothing.
use Rattle.calls.proofs.Marks.{answer_mark_lem}
use Rattle.calls.proofs.answer_mark.Tie as tie

pub answer_mark_spec : {M : Type 1} → Rattle.calls.proofs.answer_mark.Statement.statement M
answer_mark_spec = tie.close (tie.spec (λ c. answer_mark_lem))
