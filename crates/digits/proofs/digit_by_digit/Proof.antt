-- `digits::digit_by_digit` meets its contract. Assumes nothing.
use Rattle.digits.proofs.Each.{digit_by_digit}
use Rattle.digits.proofs.digit_by_digit.Tie as tie

pub digit_by_digit_spec : {M : Type 1} → Rattle.digits.proofs.digit_by_digit.Statement.statement M
digit_by_digit_spec = tie.close (tie.spec (λ c. digit_by_digit))
