-- Believed: document 02, request 13: what the report prints, as bytes in ASCII: a space is 32.
-- Assumes nothing.
use Rattle.std.specs.Prelude.{ℕ, zero, suc, ◌+◌, ◌*◌, ◌/◌, ◌%◌, List, [], ◌∷◌, ◌++◌, eqb, ltb, length}
use Rattle.ground.specs.Choice.{if}
use Rattle.refusals.specs.Refusals.{chain_refusal}
use Rattle.text.specs.Text.{decimal, newline, refusal_line}
use Rattle.printed.specs.Script.{longest}
use Rattle.lit_time.specs.Answer.{drivers_of, total_at}

-- what stands between two numbers
abbrev pub space : List ℕ
space = 32 ∷ []

-- driver, cathode and total with one space between
abbrev pub total_line : ℕ → ℕ → ℕ → List ℕ
total_line j d v = decimal j ++ space ++ decimal d ++ space ++ decimal v ++ newline

-- m lines, one after another
unfoldable pub lines_of : ℕ → (ℕ → List ℕ) → List ℕ
lines_of zero f = []
lines_of (suc m) f = lines_of m f ++ f m

-- a line for each pair, by driver and then cathode
abbrev pub total_lines : ℕ → (ℕ → ℕ) → List ℕ
total_lines m total = lines_of m (λ i. total_line (i / 8 + 1) (i % 8) (total i))

-- all that is printed: 9, or a chain record refused with 1, prints its `R` line alone
unfoldable pub reported : List ℕ → List ℕ
reported s =
    if (ltb longest (length s)) (refusal_line 9)
    (if (eqb (chain_refusal (drivers_of s)) 0) (total_lines (8 * drivers_of s) (total_at s)) (refusal_line 1))
