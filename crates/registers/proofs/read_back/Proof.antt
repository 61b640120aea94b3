-- `registers::read_back` meets its contract. Assumes nothing.
use Rattle.registers.proofs.Back.{read_back}
use Rattle.registers.proofs.read_back.Tie as tie

pub read_back_spec : {M : Type 1} → Rattle.registers.proofs.read_back.Statement.statement M
read_back_spec = tie.close (tie.spec (λ c. read_back))
