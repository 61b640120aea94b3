-- `device::shift_word` meets its contract. Assumes nothing.
use Rattle.device.proofs.Shift.{shift_word_lem}
use Rattle.device.proofs.shift_word.Tie as tie

pub shift_word_spec : {M : Type 1} → Rattle.device.proofs.shift_word.Statement.statement M
shift_word_spec = tie.close (tie.spec (λ c. shift_word_lem))
