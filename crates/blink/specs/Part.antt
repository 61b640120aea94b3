-- Believed: document 01, "Blink" and number 6: the part of the plane now shown, of two lent planes.
-- Assumes nothing.
use Rattle.std.specs.Prelude.{ℕ, ◌+◌, ◌-◌, List, [], eqb, take, drop}
use Rattle.ground.specs.Choice.{if}
use Rattle.refusals.specs.Refusals.{plane_refusal}
use Rattle.words.specs.declared.Plane.{Plane}
use Rattle.words.specs.declared.Plane.TheVariants.{P0, P1}

-- P0, then P1
abbrev pub lent_plane : Plane → List ℕ → List ℕ → List ℕ
lent_plane P0 p0 p1 = p0
lent_plane P1 p0 p1 = p1

-- digits first to last, both included, of the plane shown; empty where refused
abbrev pub plane_part : Plane → List ℕ → List ℕ → ℕ → ℕ → List ℕ
plane_part shown p0 p1 first last =
    if (eqb (plane_refusal p0 p1 first last) 0) (take (last + 1 - first) (drop first (lent_plane shown p0 p1))) []
