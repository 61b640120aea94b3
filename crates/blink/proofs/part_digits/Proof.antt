-- `blink::part_digits` meets its contract. Assumes nothing.
use Rattle.blink.proofs.Part.{part_digits}
use Rattle.blink.proofs.part_digits.Tie as tie

pub part_digits_spec : {M : Type 1} → Rattle.blink.proofs.part_digits.Statement.statement M
part_digits_spec = tie.close (tie.spec (λ c. part_digits))
