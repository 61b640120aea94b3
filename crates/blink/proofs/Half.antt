-- The phases, half a period each.
-- Assumes nothing.
use Rattle.ground.proofs.Names.{ℕ, ◌%◌, ◌<◌, ◌≤◌, arith, Bool, true, false, ◌≡◌, refl, ltb, lt-ltb, le-ltb, ltb-true, ltb-false, if}
use Rattle.words.specs.declared.Plane.TheVariants.{P0, P1}
use Rattle.blink.specs.Blink.{advanced, restarted, phase_at}
use Rattle.blink.specs.Phases.{half, other, Phases}

restarted_p0 : (count clocks : ℕ) (fast : Bool) → clocks < half fast → phase_at (advanced (restarted count true) clocks) fast ≡ P0
restarted_p0 count clocks true h = rw (lt-ltb (advanced (restarted count true) clocks % 2000000) 1000000 (omega arith))
restarted_p0 count clocks false h = rw (lt-ltb (advanced (restarted count true) clocks) 2000000 (omega arith))

-- two phases by their tests, one of which holds where the other doesn't
others : (m n k : ℕ) → (m < k → k ≤ n) → (k ≤ m → n < k) → if (ltb n k) P0 P1 ≡ other (if (ltb m k) P0 P1)
others m n k f g = go (ltb m k) refl
  where
    go : (b : Bool) → ltb m k ≡ b → if (ltb n k) P0 P1 ≡ other (if b P0 P1)
    go true e = rw (le-ltb n k (f (ltb-true m k e)))
    go false e = rw (lt-ltb n k (g (ltb-false m k e)))

fast_half : (count : ℕ) → phase_at (advanced count 1000000) true ≡ other (phase_at count true)
fast_half count = others (count % 2000000) (advanced count 1000000 % 2000000) 1000000 (λ l. omega arith) (λ l. omega arith)

half_on : (count : ℕ) (fast : Bool) → count < 4000000 → phase_at (advanced count (half fast)) fast ≡ other (phase_at count fast)
half_on count true h = fast_half count
half_on count false h = others count (advanced count 2000000) 2000000 (λ l. omega arith) (λ l. omega arith)

pub phases : Phases
phases =
    record {
      first_half = restarted_p0;
      not_restarted = λ count. refl;
      half_later = half_on;
      not_blinking = λ count fast. refl;
      blinking = λ count fast. refl;
    }
