-- Auxiliary: the byte that the word at the stopping place leaves. `byte_after` is what is believed.
-- Assumes nothing.
use Rattle.std.specs.Prelude.{ℕ, zero, suc, ◌/◌, ◌%◌, List, eqb, get_or}
use Rattle.ground.specs.Choice.{if}

-- the byte that a word that stops leaves: 0 by a clear, else its data
abbrev pub left_by : ℕ → ℕ
left_by w = if (eqb (w / 256 % 128) 4) 0 (w % 256)

-- the byte after the words, by the stopping place and the byte of the record
abbrev pub byte_by : ℕ → List ℕ → ℕ → ℕ
byte_by zero ws held = held
byte_by (suc k) ws held = left_by (get_or ws k 0)
