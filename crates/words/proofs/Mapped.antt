-- Table 6, by computation.
-- Assumes nothing.
use Rattle.ground.proofs.Names.{ℕ, map, ◌≡◌, refl, tabulate}
use Rattle.words.proofs.Parts.{write_word, read_word}
use Rattle.words.specs.Addresses.{written_at, read_at}
use Rattle.words.specs.Table6.{table6, unlisted, Table6}
use Rattle.words.specs.declared.Register.{Register}
use Rattle.words.specs.declared.Register.TheVariants.{Unlisted}

written_rows : map (λ (row : ℕ × Register × Register). written_at row.0) table6 ≡ map (λ (row : ℕ × Register × Register). row.1) table6
written_rows = refl

read_rows : map (λ (row : ℕ × Register × Register). read_at row.0) table6 ≡ map (λ (row : ℕ × Register × Register). row.2) table6
read_rows = refl

no_row_written : map written_at unlisted ≡ map (λ a. Unlisted) unlisted
unfolding tabulate
no_row_written = refl

no_row_read : map read_at unlisted ≡ map (λ a. Unlisted) unlisted
unfolding tabulate
no_row_read = refl

pub mapped : Table6
mapped =
    record {
      as_written = written_rows;
      as_read = read_rows;
      others_written = no_row_written;
      others_read = no_row_read;
      write_words = write_word written_at read_at;
      read_words = read_word written_at read_at;
    }
