-- Believed: a list by its elements, and tables of examples.
-- Assumes nothing.
use Rattle.std.specs.Prelude.{ℕ, zero, suc, List, [], ◌∷◌, ◌++◌, map, ◌≡◌}

-- the values of f at 0 up to, not including, n
unfoldable pub tabulate : {A : Type 0} → ℕ → (ℕ → A) → List A
tabulate zero f = []
tabulate (suc n) f = tabulate n f ++ f n ∷ []

-- a table of examples, in each row what is evaluated and what the document says: the two agree in every row
abbrev pub Agree : {A : Type 0} → List (A × A) → Type 0
Agree {A} rows = map (λ (row : A × A). row.0) rows ≡ map (λ (row : A × A). row.1) rows
