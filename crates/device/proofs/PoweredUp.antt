-- Table 15, by computation.
-- Assumes nothing.
use Rattle.ground.proofs.Names.{ℕ, ◌+◌, ◌*◌, map, ◌≡◌, refl}
use Rattle.device.specs.PowerUp.{power_up}
use Rattle.device.specs.Taken.{taken}
use Rattle.device.specs.Table15.{table15, after_words, full, Table15}

rows_written : (after_words full (map (λ (row : ℕ × ℕ). row.0 * 256 + row.1) table15)).registers ≡ power_up.registers
unfolding taken
rows_written = refl

pub powered_up : Table15
unfolding taken
powered_up = record { rows_written = rows_written; rows_read = refl; beside = refl; held = refl }
