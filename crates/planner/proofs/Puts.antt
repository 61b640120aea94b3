-- Words put one after the other into a list of accesses.
-- Assumes nothing.
use Rattle.ground.proofs.Names.{ℕ, zero, suc, ◌+◌, ◌*◌, ◌<◌, ◌≤◌, suc-mul, add-mul, mul-le-mul_right, arith, ℕ_discrete, List, [], ◌∷◌, ◌++◌, ◌≡◌, refl, sym, ◌∙◌, length, get_or, set, drop, length-append, length-set, get_or-set_same, get_or-set_other, drop-set-lt}
use Rattle.digits.specs.declared.Planes.{Planes}
use Rattle.plans.specs.Least.{total, need_at, plain}
use Rattle.plans.specs.Plan.{steps}
use Rattle.plans.proofs.Planner.{length_steps}
use Rattle.planner.specs.OneDriver.{put}
use Rattle.planner.specs.Column.{Puts, Room}
use Rattle.planner.specs.declared.Column.{Column}

pub length_put : (ws l : List ℕ) (n at : ℕ) → length (put l n at ws) ≡ length l
unfolding put
length_put [] l n at = refl
length_put (w ∷ ws) l n at = length_put ws (set l at w) n (at + n) ∙ length-set l at w

pub put_append : (ws vs l : List ℕ) (n at : ℕ) → put l n at (ws ++ vs) ≡ put (put l n at ws) n (at + length ws * n) vs
unfolding put
put_append [] vs l n at = let e : at + 0 * n ≡ at = omega arith in rw e
put_append (w ∷ ws) vs l n at =
    let e : at + suc (length ws) * n ≡ at + n + length ws * n = omega (arith, suc-mul (length ws) n) in
    rw e (put_append ws vs (set l at w) n (at + n))

-- a place that isn't among those of the words, one that is, and those after them
pub put_other : (ws l : List ℕ) (n at x : ℕ) → ((j : ℕ) → x ≡ j * n + at → ⊥) → get_or (put l n at ws) x 0 ≡ get_or l x 0
unfolding put
put_other [] l n at x d = refl
put_other (w ∷ ws) l n at x d =
    put_other ws (set l at w) n (at + n) x (λ j e. d (suc j) (omega (arith, e, suc-mul j n)))
    ∙ get_or-set_other l at x w 0 (λ e. d 0 (omega (arith, e)))

pub put_own : (ws l : List ℕ) (n at j : ℕ) → 0 < n → j < length ws → j * n + at < length l → get_or (put l n at ws) (j * n + at) 0 ≡ get_or ws j 0
unfolding put
put_own [] l n at j s h z = absurd (omega arith)
put_own (w ∷ ws) l n at zero s h z =
    let e : 0 * n + at ≡ at = omega arith in
    rw e (put_other ws (set l at w) n (at + n) at (λ j f. omega (arith, f)) ∙ get_or-set_same l at w 0 (omega arith))
put_own (w ∷ ws) l n at (suc j) s h z =
    let e : suc j * n + at ≡ j * n + (at + n) = omega (arith, suc-mul j n) in
    rw e (put_own ws (set l at w) n (at + n) j s (omega arith) (rw (length-set, ← e) z))

pub put_rest : (ws l : List ℕ) (n at m : ℕ) → length ws * n + at < m + n → drop m (put l n at ws) ≡ drop m l
unfolding put
put_rest [] l n at m z = refl
put_rest (w ∷ ws) l n at m z =
    put_rest ws (set l at w) n (at + n) m (omega (arith, suc-mul (length ws) n)) ∙ drop-set-lt m l at w (omega (arith, suc-mul (length ws) n))

-- the words of the digits before one, and its own, are no more than those of all
grows : (f : ℕ → ℕ) (k m : ℕ) → k < m → total k f + f k ≤ total m f
unfolding total
grows f k zero l = absurd (omega arith)
grows f k (suc m) l = go (grows f k m) (ℕ_discrete k m)
  where
    go : (k < m → total k f + f k ≤ total m f) → Dec (k ≡ m) → total k f + f k ≤ total m f + f m
    go earlier (yes e) = rw e (omega arith)
    go earlier (no e) = omega (arith, earlier (omega arith))

pub needs_fit : (p q : Planes) (k n : ℕ) → k < 16 → total k (need_at p q) * n + need_at p q k * n ≤ plain p q * n
needs_fit p q k n h = rw add-mul at (mul-le-mul_right n (grows (need_at p q) k 16 h))

-- words put, and then others
pub puts_append : (s t u : Column) (ws vs : List ℕ) → Puts s t ws → Puts t u vs → Puts s u (ws ++ vs)
puts_append s t u ws vs a b = (
  b.0 ∙ a.0,
  rw (a.1, a.2, a.3) at b.1 ∙ sym (put_append ws vs s.list.now s.n s.at),
  b.2 ∙ a.2,
  rw (length-append, add-mul) (rw (a.2, a.3) at b.3 ∙ omega arith),
)

pub puts_none : (s : Column) → Puts s s []
unfolding put
puts_none s = (refl, refl, refl, omega arith)

-- the room after them
pub room_after : (s t : Column) (ws : List ℕ) (count : ℕ) → Puts s t ws → Room s (length ws + count) → Room t count
room_after s t ws count a r = rw (a.1, a.2, a.3, length_put) (r.0, omega (arith, rw add-mul at r.1))

-- and that for the next digit
pub room_for : (s t : Column) (p q : Planes) (k : ℕ) → k < 16 → Puts s t (steps p q k) → Room s (plain p q) → Room t (need_at p q k)
room_for s t p q k h a r = room_after s t (steps p q k) (need_at p q k) a (r.0, rw (length_steps, add-mul) (omega (arith, needs_fit p q k s.n h, r.1)))

pub room_less : (s : Column) (m count : ℕ) → m ≤ count → Room s count → Room s m
room_less s m count h r = (r.0, omega (arith, r.1, mul-le-mul_right s.n h))
