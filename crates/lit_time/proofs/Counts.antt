-- The clocks at which a plane is shown: counted one by one, and in closed form.
-- Assumes nothing.
use Rattle.ground.proofs.Names.{ℕ, zero, suc, ◌+◌, ◌-◌, ◌%◌, ◌<◌, ◌≤◌, arith, Bool, true, false, ◌≡◌, refl, ltb, ltb-true, ltb-false, dec_lt, if}
use Rattle.words.specs.declared.Plane.{Plane}
use Rattle.words.specs.declared.Plane.TheVariants.{P0, P1}
use Rattle.blink.specs.Blink.{advanced, phase_at, shown_at}
use Rattle.lit_time.specs.Counted.{same, counted, p0_below, p0_clocks}

-- one count more
below_next : (fast : Bool) (c : ℕ) → c < 4000000 → p0_below fast (c + 1) ≡ p0_below fast c + same P0 (phase_at c fast)
below_next true c h = go (ltb (c % 2000000) 1000000) refl
  where
    go : (b : Bool) → ltb (c % 2000000) 1000000 ≡ b → p0_below true (c + 1) ≡ p0_below true c + same P0 (if b P0 P1)
    go true e = omega (arith, ltb-true (c % 2000000) 1000000 e)
    go false e = omega (arith, ltb-false (c % 2000000) 1000000 e)
below_next false c h = go (ltb c 2000000) refl
  where
    go : (b : Bool) → ltb c 2000000 ≡ b → p0_below false (c + 1) ≡ p0_below false c + same P0 (if b P0 P1)
    go true e = omega (arith, ltb-true c 2000000 e)
    go false e = omega (arith, ltb-false c 2000000 e)

-- a cycle more
below_cycle : (fast : Bool) (n : ℕ) → p0_below fast (4000000 + n) ≡ 2000000 + p0_below fast n
below_cycle true n = omega arith
below_cycle false n = omega arith

-- a cycle is half P0
pub half_cycle : (fast : Bool) (c : ℕ) → p0_clocks fast true c 4000000 ≡ 2000000
half_cycle true c = omega arith
half_cycle false c = omega arith

below_none : (fast : Bool) → p0_below fast 0 ≡ 0
below_none true = refl
below_none false = refl

-- k counts more are at most k in the P0 phase
pub below_more : (fast : Bool) (n k : ℕ) → (p0_below fast n ≤ p0_below fast (n + k)) × (p0_below fast (n + k) ≤ p0_below fast n + k)
below_more true n k = omega arith
below_more false n k = omega arith

-- the P0 phase, clock by clock
counted_below : (fast : Bool) (c k : ℕ) → c < 4000000 → p0_below fast c + counted P0 fast true c k ≡ p0_below fast (c + k)
unfolding counted
counted_below fast c zero h = let e : c + 0 ≡ c = omega arith in rw e (omega arith)
counted_below fast c (suc k) h = go (λ m. counted_below fast m k) (dec_lt (c + 1) 4000000)
  where
    go : ((m : ℕ) → m < 4000000 → p0_below fast m + counted P0 fast true m k ≡ p0_below fast (m + k)) → Dec (c + 1 < 4000000)
        → p0_below fast c + (same P0 (phase_at c fast) + counted P0 fast true (advanced c 1) k) ≡ p0_below fast (c + suc k)
    go later (yes l) =
        let e : (c + 1) % 4000000 ≡ c + 1 = omega arith in
        let s : c + suc k ≡ c + 1 + k = omega arith in
        rw (e, s) (omega (arith, below_next fast c h, later (c + 1) l))
    go later (no l) =
        let e : (c + 1) % 4000000 ≡ 0 = omega arith in
        let s : c + suc k ≡ 4000000 + k = omega arith in
        let t : c + 1 ≡ 4000000 + 0 = omega arith in
        let z : 0 + k ≡ k = omega arith in
        let n = rw t at (below_next fast c h) in
        let i = rw z at (later 0 (omega arith)) in
        rw (e, s) (omega (arith, n, i, below_cycle fast 0, below_cycle fast k, below_none fast))

-- without blinking each clock shows P0
all_p0 : (fast : Bool) (c k : ℕ) → counted P0 fast false c k ≡ k
unfolding counted
all_p0 fast c zero = refl
all_p0 fast c (suc k) = omega (arith, all_p0 fast (advanced c 1) k)

one_plane : (p : Plane) → same P0 p + same P1 p ≡ 1
one_plane P0 = refl
one_plane P1 = refl

-- each clock shows one of the planes
both_counted : (fast blinking : Bool) (c k : ℕ) → counted P0 fast blinking c k + counted P1 fast blinking c k ≡ k
unfolding counted
both_counted fast blinking c zero = refl
both_counted fast blinking c (suc k) = omega (arith, one_plane (shown_at c fast blinking), both_counted fast blinking (advanced c 1) k)

p0_counted : (fast blinking : Bool) (c k : ℕ) → c < 4000000 → p0_clocks fast blinking c k ≡ counted P0 fast blinking c k
p0_counted fast true c k h = omega (arith, counted_below fast c k h)
p0_counted fast false c k h = omega (arith, all_p0 fast c k)

-- so is P1 where P0 isn't
pub clock_by_clock : (fast blinking : Bool) (c k : ℕ) → c < 4000000
    → (p0_clocks fast blinking c k ≡ counted P0 fast blinking c k) × (k - p0_clocks fast blinking c k ≡ counted P1 fast blinking c k)
clock_by_clock fast blinking c k h =
    (p0_counted fast blinking c k h, omega (arith, p0_counted fast blinking c k h, both_counted fast blinking c k))
