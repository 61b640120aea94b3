-- Auxiliary: text written into room from a place on.
-- Assumes nothing.
use Rattle.std.specs.Prelude.{ℕ, ◌+◌, List, ◌≡◌, leb, length}
use Rattle.std.proofs.lemmas.List.Edits.{sets}
use Rattle.ground.specs.Choice.{if}

-- a text written into room from a place on, and the place after it
pub record Written (text : List ℕ) (at : ℕ) (out out' : List ℕ) (at' : ℕ) : Type 0 where
  pub bytes : out' ≡ sets out at text
  pub place : at' ≡ at + length text

-- the room after a text is put there: one that doesn't fit isn't
unfoldable pub room_after : List ℕ → ℕ → List ℕ → List ℕ
room_after text at out = if (leb (at + length text) (length out)) (sets out at text) out

-- the place after it
unfoldable pub place_after : List ℕ → ℕ → List ℕ → ℕ
place_after text at out = if (leb (at + length text) (length out)) (at + length text) at
