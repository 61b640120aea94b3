-- Believed: document 01, "Blink": 4 MHz with periods of 1 s and 0.5 s, the P0 phase first; T=1 starts a period; the plane shown.
-- Assumes nothing.
use Rattle.std.specs.Prelude.{ℕ, ◌<◌, Bool, true, false, ◌≡◌}
use Rattle.ground.specs.Choice.{if}
use Rattle.words.specs.declared.Plane.{Plane}
use Rattle.words.specs.declared.Plane.TheVariants.{P0, P1}
use Rattle.blink.specs.Blink.{advanced, restarted, phase_at, shown_at}

-- half a period, in clocks of 4 MHz: of 0.5 s fast, of 1 s slow
abbrev pub half : Bool → ℕ
half fast = if fast 1000000 2000000

-- the other plane
abbrev pub other : Plane → Plane
other P0 = P1
other P1 = P0

-- at every count
pub record Phases : Type 0 where
  -- T=1 starts a period: its first half is the P0 phase
  pub first_half : (count clocks : ℕ) (fast : Bool) → clocks < half fast → phase_at (advanced (restarted count true) clocks) fast ≡ P0
  -- T=0 leaves the count
  pub not_restarted : (count : ℕ) → restarted count false ≡ count
  -- half a period later it is the other phase
  pub half_later : (count : ℕ) (fast : Bool) → count < 4000000 → phase_at (advanced count (half fast)) fast ≡ other (phase_at count fast)
  -- the plane shown: P0 when E=0, otherwise that of the phase
  pub not_blinking : (count : ℕ) (fast : Bool) → shown_at count fast false ≡ P0
  pub blinking : (count : ℕ) (fast : Bool) → shown_at count fast true ≡ phase_at count fast
