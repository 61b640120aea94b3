-- Auxiliary: the clocks at which a plane is shown, counted one by one, and in closed form.
-- Assumes nothing.
use Rattle.std.specs.Prelude.{ℕ, zero, suc, ◌+◌, ◌-◌, ◌*◌, ◌/◌, ◌%◌, min, Bool}
use Rattle.ground.specs.Choice.{if}
use Rattle.words.specs.declared.Plane.{Plane}
use Rattle.words.specs.declared.Plane.TheVariants.{P0, P1}
use Rattle.blink.specs.Blink.{advanced, shown_at}

-- 1 where two planes are the same
abbrev pub same : Plane → Plane → ℕ
same P0 P0 = 1
same P0 P1 = 0
same P1 P0 = 0
same P1 P1 = 1

-- of k clocks from a count on, those at which a plane is shown, clock by clock
unfoldable pub counted : Plane → Bool → Bool → ℕ → ℕ → ℕ
counted p fast blinking count zero = 0
counted p fast blinking count (suc k) = same p (shown_at count fast blinking) + counted p fast blinking (advanced count 1) k

-- of the counts below n, not brought below a cycle, those in the P0 phase: half of each whole period, and the first half of what is left
abbrev pub p0_below : Bool → ℕ → ℕ
p0_below fast n =
    if fast (n / 2000000 * 1000000 + min (n % 2000000) 1000000) (n / 4000000 * 2000000 + min (n % 4000000) 2000000)

-- of k clocks from a count on, those at which plane P0 is shown: all where it doesn't blink
abbrev pub p0_clocks : Bool → Bool → ℕ → ℕ → ℕ
p0_clocks fast blinking count k = if blinking (p0_below fast (count + k) - p0_below fast count) k
