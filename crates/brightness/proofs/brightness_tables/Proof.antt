-- `brightness::brightness_tables` meets its contract. Assumes nothing.
use Rattle.brightness.proofs.Tabled.{tabled}
use Rattle.brightness.proofs.brightness_tables.Tie as tie

pub brightness_tables_spec : {M : Type 1} → Rattle.brightness.proofs.brightness_tables.Statement.statement M
brightness_tables_spec = tie.close (tie.spec (λ c. tabled))
