-- Believed: document 01, "Blink".
-- Assumes nothing.
use Rattle.std.specs.Prelude.{ℕ, ◌+◌, ◌%◌, Bool, ltb}
use Rattle.ground.specs.Choice.{if}
use Rattle.words.specs.declared.Plane.{Plane}
use Rattle.words.specs.declared.Plane.TheVariants.{P0, P1}

-- master clocks given are added to the blink count modulo 4,000,000
abbrev pub advanced : ℕ → ℕ → ℕ
advanced count clocks = (count + clocks) % 4000000

-- T=1 sets the blink count to 0
abbrev pub restarted : ℕ → Bool → ℕ
restarted count t = if t 0 count

-- slow: the P0 phase is a count below 2,000,000; fast: the count modulo 2,000,000 is below 1,000,000
abbrev pub phase_at : ℕ → Bool → Plane
phase_at count fast =
    if fast (if (ltb (count % 2000000) 1000000) P0 P1) (if (ltb count 2000000) P0 P1)

-- the plane shown is P0 when not blinking, otherwise that of the phase
abbrev pub shown_at : ℕ → Bool → Bool → Plane
shown_at count fast blinking = if blinking (phase_at count fast) P0
