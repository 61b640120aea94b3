-- The least number of words falls by at most one with each word, and is 0 at the wanted planes; so no list of fewer words gets there.
-- Assumes nothing.
use Rattle.ground.proofs.Names.{ℕ, zero, suc, ◌+◌, ◌*◌, ◌<◌, ◌≤◌, max, suc-mul, arith, ℕ_discrete, Bool, true, false, List, [], ◌∷◌, ◌≢◌, ◌≡◌, refl, sym, ◌∙◌, eqb, length, get_or, set, length-set, get_or-set_same, get_or-set_other, eqb-true, eq-eqb}
use Rattle.words.specs.declared.Plane.TheVariants.{P0, P1}
use Rattle.digits.specs.declared.Planes.{Planes}
use Rattle.device.specs.declared.Device.{Device}
use Rattle.plans.specs.Words.{Accepted, Sized}
use Rattle.plans.specs.Least.{wrong, need_by, need, need_at, total, plain, least}
use Rattle.plans.specs.Act.{Act, stay, one, both, clear, acted, act_of, drawn}
use Rattle.plans.proofs.Act.{after_planes}

-- a sum whose terms are the same
total_same : (n : ℕ) (f g : ℕ → ℕ) → ((k : ℕ) → k < n → f k ≡ g k) → total n f ≡ total n g
unfolding total
total_same zero f g h = refl
total_same (suc n) f g h = rw (total_same n f g (λ k l. h k (omega arith)), h n (omega arith))

-- a sum of which one term falls by at most one
total_one : (n : ℕ) (f g : ℕ → ℕ) (i : ℕ) → ((k : ℕ) → k ≢ i → f k ≡ g k) → (i < n → f i ≤ g i + 1) → total n f ≤ total n g + 1
unfolding total
total_one zero f g i h l = omega arith
total_one (suc n) f g i h l = go (total_one n f g i h (λ j. l (omega arith))) (ℕ_discrete n i)
  where
    go : total n f ≤ total n g + 1 → Dec (n ≡ i) → total n f + f n ≤ total n g + g n + 1
    go t (yes e) =
        let s : total n f ≡ total n g = total_same n f g (λ k j. h k (λ q. omega arith)) in
        rw e (omega (arith, rw e at s, l (omega arith)))
    go t (no e) = omega (arith, h n e)

-- a sum of terms of at most c
total_le : (n c : ℕ) (f : ℕ → ℕ) → ((k : ℕ) → f k ≤ c) → total n f ≤ n * c
unfolding total
total_le zero c f h = omega arith
total_le (suc n) c f h = omega (arith, total_le n c f h, h n, suc-mul n c)

wrong_le : (r : Bool) → wrong r ≤ 1
wrong_le true = omega arith
wrong_le false = omega arith

-- a digit's need lies between the larger of what its two bytes need and their sum; where both are wanted alike it is at most one
need_between : (r s v : Bool) → (max (wrong r) (wrong s) ≤ need_by r s v) × (need_by r s v ≤ wrong r + wrong s)
need_between r s true = omega arith
need_between r s false = omega arith

need_alike : (r s : Bool) → need_by r s true ≤ 1
need_alike r s = omega (arith, wrong_le r, wrong_le s)

pub need_le : (a b x y : ℕ) → need a b x y ≤ 2
need_le a b x y = omega (arith, need_between (eqb a x) (eqb b y) (eqb x y), wrong_le (eqb a x), wrong_le (eqb b y))

-- one byte changed
need_first : (a a' b x y : ℕ) → need a b x y ≤ need a' b x y + 1
need_first a a' b x y = omega (arith, need_between (eqb a x) (eqb b y) (eqb x y), need_between (eqb a' x) (eqb b y) (eqb x y), wrong_le (eqb a x))

need_second : (a b b' x y : ℕ) → need a b x y ≤ need a b' x y + 1
need_second a b b' x y = omega (arith, need_between (eqb a x) (eqb b y) (eqb x y), need_between (eqb a x) (eqb b' y) (eqb x y), wrong_le (eqb b y))

-- both bytes changed to one
need_both : (a b v x y : ℕ) → need a b x y ≤ need v v x y + 1
need_both a b v x y = go (eqb v x) (eqb v y) refl refl
  where
    go : (s u : Bool) → eqb v x ≡ s → eqb v y ≡ u → need a b x y ≤ need_by s u (eqb x y) + 1
    go true true e f = rw (eq-eqb x y (sym (eqb-true v x e) ∙ eqb-true v y f)) (omega (arith, need_alike (eqb a x) (eqb b y)))
    go true false e f = omega (arith, need_le a b x y, need_between true false (eqb x y))
    go false u e f = omega (arith, need_le a b x y, need_between false u (eqb x y))

acted_sized : (p : Planes) → Sized p → (a : Act) → Sized (acted p a)
acted_sized p z stay = z
acted_sized p z (one P0 k v) = record { first = length-set p.p0 k v ∙ z.first; second = z.second }
acted_sized p z (one P1 k v) = record { first = z.first; second = length-set p.p1 k v ∙ z.second }
acted_sized p z (both k v) = record { first = length-set p.p0 k v ∙ z.first; second = length-set p.p1 k v ∙ z.second }
acted_sized p z clear = record { first = refl; second = refl }

pub drawn_sized : (ws : List ℕ) (p : Planes) → Sized p → Sized (drawn p ws)
unfolding drawn
drawn_sized [] p z = z
drawn_sized (w ∷ ws) p z = drawn_sized ws (acted p (act_of w)) (acted_sized p z (act_of w))

module _ (q : Planes) where
  -- one word to one digit
  plain_first : (p : Planes) (i v : ℕ) → plain p q ≤ plain (acted p (one P0 i v)) q + 1
  plain_first p i v =
      total_one 16 (need_at p q) (need_at (acted p (one P0 i v)) q) i
      (λ k h. rw (get_or-set_other p.p0 i k v 0 h))
      (λ l. need_first (get_or p.p0 i 0) (get_or (set p.p0 i v) i 0) (get_or p.p1 i 0) (get_or q.p0 i 0) (get_or q.p1 i 0))

  plain_second : (p : Planes) (i v : ℕ) → plain p q ≤ plain (acted p (one P1 i v)) q + 1
  plain_second p i v =
      total_one 16 (need_at p q) (need_at (acted p (one P1 i v)) q) i
      (λ k h. rw (get_or-set_other p.p1 i k v 0 h))
      (λ l. need_second (get_or p.p0 i 0) (get_or p.p1 i 0) (get_or (set p.p1 i v) i 0) (get_or q.p0 i 0) (get_or q.p1 i 0))

  plain_both : (p : Planes) → Sized p → (i v : ℕ) → plain p q ≤ plain (acted p (both i v)) q + 1
  plain_both p z i v =
      total_one 16 (need_at p q) (need_at (acted p (both i v)) q) i
      (λ k h. rw (get_or-set_other p.p0 i k v 0 h, get_or-set_other p.p1 i k v 0 h))
      (λ l. rw (get_or-set_same p.p0 i v 0 (rw z.first l), get_or-set_same p.p1 i v 0 (rw z.second l))
      (need_both (get_or p.p0 i 0) (get_or p.p1 i 0) v (get_or q.p0 i 0) (get_or q.p1 i 0)))

  -- one word: the least number falls by at most one
  least_step : (p : Planes) → Sized p → (a : Act) → least p q ≤ least (acted p a) q + 1
  least_step p z stay = omega arith
  least_step p z (one P0 k v) = omega (arith, plain_first p k v)
  least_step p z (one P1 k v) = omega (arith, plain_second p k v)
  least_step p z (both k v) = omega (arith, plain_both p z k v)
  least_step p z clear = omega arith

  -- a list of words
  least_drawn : (ws : List ℕ) (p : Planes) → Sized p → least p q ≤ length ws + least (drawn p ws) q
  unfolding drawn
  least_drawn [] p z = omega arith
  least_drawn (w ∷ ws) p z =
      omega (arith, least_step p z (act_of w), least_drawn ws (acted p (act_of w)) (acted_sized p z (act_of w)))

-- nothing is needed where the planes are the wanted ones
least_same : (q : Planes) → least q q ≡ 0
least_same q = omega (arith, total_le 16 0 (need_at q q) (λ k. none (get_or q.p0 k 0) (get_or q.p1 k 0)))
  where
    none : (x y : ℕ) → need x y x y ≤ 0
    none x y = rw (eq-eqb x x refl, eq-eqb y y refl) (omega (arith, need_between true true (eqb x y)))

-- a digit needs at most two, a driver at most 32
pub needs_le : (p q : Planes) (n : ℕ) → total n (need_at p q) ≤ n * 2
needs_le p q n = total_le n 2 (need_at p q) (λ k. need_le (get_or p.p0 k 0) (get_or p.p1 k 0) (get_or q.p0 k 0) (get_or q.p1 k 0))

pub least_le : (p q : Planes) → least p q ≤ 32
least_le p q = omega (arith, needs_le p q 16)

-- an accepted list has at least so many words
pub none_shorter : (d : Device) (q : Planes) (ws : List ℕ) → Sized d.registers.planes → Accepted d q ws → least d.registers.planes q ≤ length ws
none_shorter d q ws z h =
    let e : drawn d.registers.planes ws ≡ q = sym (after_planes ws d h.alone) ∙ h.ends in
    omega (arith, rw e at (least_drawn q ws d.registers.planes z), least_same q)
