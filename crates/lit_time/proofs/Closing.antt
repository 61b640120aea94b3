-- The lit time of a cathode: clocks of each plane times what is shown under it.
-- Assumes nothing.
use Rattle.ground.proofs.Names.{ℕ, zero, suc, ◌+◌, ◌-◌, ◌*◌, ◌%◌, ◌<◌, ◌≤◌, arith, Bool, true, false, List, ◌≡◌, ap, ◌∙◌, odd}
use Rattle.words.specs.declared.Plane.{Plane}
use Rattle.words.specs.declared.Plane.TheVariants.{P0, P1}
use Rattle.blink.specs.Blink.{shown_at}
use Rattle.device.specs.Record.{with_blink}
use Rattle.device.specs.Steps.{clocked, shown_plane}
use Rattle.device.specs.declared.Device.{Device}
use Rattle.lit_time.specs.LitTime.{cathode_time, lit_time}
use Rattle.lit_time.specs.Counted.{same, counted, p0_clocks}
use Rattle.lit_time.specs.Closed.{time_in, p0_of, time_by, Typed}
use Rattle.lit_time.specs.Periods.{Periods}
use Rattle.lit_time.proofs.Counts.{half_cycle, clock_by_clock}
use Rattle.lit_time.proofs.Weights.{by_weight, clock_most}

-- clocks of a driver that show a plane
abbrev shown_in : Device → Plane → ℕ → ℕ
shown_in x p k = counted p (odd x.registers.config.b) (odd x.registers.config.e) x.registers.blink k

-- a clock adds what the plane shown does
plane_time : (p : Plane) (w : Plane → ℕ) → w p ≡ same P0 p * w P0 + same P1 p * w P1
plane_time P0 w = omega arith
plane_time P1 w = omega arith

counted_time : (x : Device) (d : ℕ) (font14 font16 : List ℕ) (k : ℕ)
    → lit_time x d font14 font16 k ≡ shown_in x P0 k * time_in x P0 d font14 font16 + shown_in x P1 k * time_in x P1 d font14 font16
unfolding lit_time counted
counted_time x d font14 font16 zero = omega arith
counted_time x d font14 font16 (suc k) =
    omega (arith, counted_time (clocked x 1) d font14 font16 k, plane_time (shown_plane x) (λ p. time_in x p d font14 font16))

closed_time : (x : Device) (d : ℕ) (font14 font16 : List ℕ) (k : ℕ) → x.registers.blink < 4000000
    → lit_time x d font14 font16 k ≡ p0_of x k * time_in x P0 d font14 font16 + (k - p0_of x k) * time_in x P1 d font14 font16
closed_time x d font14 font16 k h =
    let c = clock_by_clock (odd x.registers.config.b) (odd x.registers.config.e) x.registers.blink k h in
    rw (c.1, c.0) (counted_time x d font14 font16 k)

-- the same by the weights
pub by_weights : (x : Device) (d : ℕ) (font14 font16 : List ℕ) (k : ℕ) → Typed x d font14 font16 → x.registers.blink < 4000000
    → lit_time x d font14 font16 k ≡ time_by x d font14 font16 k (p0_of x k)
by_weights x d font14 font16 k t h =
    closed_time x d font14 font16 k h ∙ rw (by_weight x P0 d font14 font16 t, by_weight x P1 d font14 font16 t)

-- what holds in both planes
pub in_both : (f : Plane → ℕ) (m : ℕ) → f P0 < m → f P1 < m → (p : Plane) → f p < m
in_both f m h g P0 = h
in_both f m h g P1 = g

most : (x : Device) (d : ℕ) (font14 font16 : List ℕ) (k : ℕ) → lit_time x d font14 font16 k ≤ 255 * k
unfolding lit_time
most x d font14 font16 zero = omega arith
most x d font14 font16 (suc k) = omega (arith, clock_most x d font14 font16, most (clocked x 1) d font14 font16 k)

-- clocks given one after another
clocked_more : (x : Device) (a : ℕ) → clocked (clocked x 1) a ≡ clocked x (suc a)
clocked_more x a =
    let e : ((x.registers.blink + 1) % 4000000 + a) % 4000000 ≡ (x.registers.blink + suc a) % 4000000 = omega arith in
    ap (λ (c : ℕ). with_blink x c) e

clocked_none : (x : Device) → x.registers.blink < 4000000 → clocked x 0 ≡ x
clocked_none x h =
    let e : (x.registers.blink + 0) % 4000000 ≡ x.registers.blink = omega arith in
    ap (λ (c : ℕ). with_blink x c) e

in_parts : (x : Device) (d : ℕ) (font14 font16 : List ℕ) (a b : ℕ) → x.registers.blink < 4000000
    → lit_time x d font14 font16 (a + b) ≡ lit_time x d font14 font16 a + lit_time (clocked x a) d font14 font16 b
unfolding lit_time
in_parts x d font14 font16 zero b h =
    let z : 0 + b ≡ b = omega arith in
    rw (z, clocked_none x h) (omega arith)
in_parts x d font14 font16 (suc a) b h =
    let s : suc a + b ≡ suc (a + b) = omega arith in
    rw (s, ← clocked_more x a) (omega (arith, in_parts (clocked x 1) d font14 font16 a b (omega arith)))

-- the planes of a cycle
two_planes : (fast blinking : Bool) (c : ℕ) (w : Plane → ℕ)
    → p0_clocks fast blinking c 4000000 * w P0 + (4000000 - p0_clocks fast blinking c 4000000) * w P1
    ≡ 2000000 * w (shown_at 0 fast blinking) + 2000000 * w (shown_at 3000000 fast blinking)
two_planes true true c w = rw (half_cycle true c) (omega arith)
two_planes false true c w = rw (half_cycle false c) (omega arith)
two_planes true false c w = omega arith
two_planes false false c w = omega arith

period : (x : Device) (d : ℕ) (font14 font16 : List ℕ) → x.registers.blink < 4000000
    → lit_time x d font14 font16 4000000 ≡ 2000000 * cathode_time (with_blink x 0) d font14 font16 + 2000000 * cathode_time (with_blink x 3000000) d font14 font16
period x d font14 font16 h =
    closed_time x d font14 font16 4000000 h
    ∙ two_planes (odd x.registers.config.b) (odd x.registers.config.e) x.registers.blink (λ p. time_in x p d font14 font16)

pub periods : Periods
periods = record { in_parts = in_parts; period = period; most = most }
