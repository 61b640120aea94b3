-- `printed::byte_by_byte` meets its contract. Assumes nothing.
use Rattle.printed.proofs.Records.{byte_by_byte}
use Rattle.printed.proofs.byte_by_byte.Tie as tie

pub byte_by_byte_spec : {M : Type 1} → Rattle.printed.proofs.byte_by_byte.Statement.statement M
byte_by_byte_spec = tie.close (tie.spec (λ c. byte_by_byte))
