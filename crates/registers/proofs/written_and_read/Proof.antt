-- `registers::written_and_read` meets its contract. Assumes nothing.
use Rattle.registers.proofs.Bare.{written_and_read}
use Rattle.registers.proofs.written_and_read.Tie as tie

pub written_and_read_spec : {M : Type 1} → Rattle.registers.proofs.written_and_read.Statement.statement M
written_and_read_spec = tie.close (tie.spec (λ c. written_and_read))
