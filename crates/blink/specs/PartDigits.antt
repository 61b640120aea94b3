-- Believed: document 01, "Blink": a digit range, first to last, both included, of the plane now shown.
-- Assumes nothing.
use Rattle.std.specs.Prelude.{ℕ, ◌+◌, ◌≤◌, List, ◌≡◌, length, get_or}
use Rattle.refusals.specs.Refusals.{plane_refusal}
use Rattle.words.specs.declared.Plane.{Plane}
use Rattle.words.specs.declared.Plane.TheVariants.{P0, P1}
use Rattle.blink.specs.Part.{plane_part}

-- every digit of every part that isn't refused
pub record PartDigits : Type 0 where
  pub size : (shown : Plane) (p0 p1 : List ℕ) (first last : ℕ) → plane_refusal p0 p1 first last ≡ 0
      → first + length (plane_part shown p0 p1 first last) ≡ last + 1
  -- the lent planes: P0, then P1
  pub of_p0 : (p0 p1 : List ℕ) (first k last : ℕ) → plane_refusal p0 p1 first last ≡ 0 → first + k ≤ last
      → get_or (plane_part P0 p0 p1 first last) k 0 ≡ get_or p0 (first + k) 0
  pub of_p1 : (p0 p1 : List ℕ) (first k last : ℕ) → plane_refusal p0 p1 first last ≡ 0 → first + k ≤ last
      → get_or (plane_part P1 p0 p1 first last) k 0 ≡ get_or p1 (first + k) 0
