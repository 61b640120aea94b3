-- Believed: texts as bytes in ASCII: those of a list's elements, and numbers in decimal. `0` is 48, a newline 10.
-- Assumes nothing.
use Rattle.std.specs.Prelude.{ℕ, zero, suc, ◌+◌, ◌/◌, ◌%◌, List, [], ◌∷◌, ◌++◌, ltb}
use Rattle.ground.specs.Choice.{if}

-- the text of each element, one after another
unfoldable pub each : (ℕ → List ℕ) → List ℕ → List ℕ
each f [] = []
each f (x ∷ xs) = f x ++ each f xs

-- a digit, 0 to 9
abbrev pub digit : ℕ → ℕ
digit v = 48 + v % 10

-- the last k digits of a number, or all where it has fewer
unfoldable pub digits_in : ℕ → ℕ → List ℕ
digits_in zero v = []
digits_in (suc k) v = if (ltb v 10) [] (digits_in k (v / 10)) ++ digit v ∷ []

-- a number in decimal; one of 64 bits has at most 20 digits
abbrev pub decimal : ℕ → List ℕ
decimal v = digits_in 20 v

-- what ends a line
abbrev pub newline : List ℕ
newline = 10 ∷ []

-- `R` and a number, for a refusal
abbrev pub refusal_line : ℕ → List ℕ
refusal_line n = 82 ∷ 32 ∷ decimal n ++ newline
