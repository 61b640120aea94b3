-- Believed: what running a script leaves beside the room.
-- Assumes nothing.
use Rattle.std.specs.Prelude.{ℕ}

-- its number, and how many bytes were printed
pub record Ran : Type 0 where
  pub number : ℕ
  pub length : ℕ
