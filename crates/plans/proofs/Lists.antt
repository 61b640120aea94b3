-- The planner's list for a chain is accepted, and none accepted is shorter.
-- Assumes nothing.
use Rattle.ground.proofs.Names.{ℕ, zero, suc, ◌+◌, ◌*◌, ◌/◌, ◌%◌, ◌<◌, ◌≤◌, max, mul-add-div_right, mul-add-mod_self_right, mul-div_cancel, mul-mod_left, mul-le-mul_right, div-eq_of_lt, mod-eq_of_lt, suc-mul, add-zero, div-add-mod', arith, dec_lt, Bool, true, List, [], ◌∷◌, ◌++◌, ◌≡◌, refl, sym, ap, ap₂, ◌∙◌, length, get_or, take, drop, length-take, length-drop, List·getD-eq-default, get_or-take, get_or-drop, tabulate, and_left, and_right, length_tabulate, get_d_tabulate, tabulate_ext}
use Rattle.digits.specs.declared.Planes.{Planes}
use Rattle.device.specs.declared.Device.{Device}
use Rattle.plans.specs.Words.{allowed, every, Accepted, Wanted}
use Rattle.plans.specs.Lists.{record_at, wanted_at, words_at, AcceptedList, Given}
use Rattle.plans.specs.Least.{least}
use Rattle.plans.specs.Plan.{plan_of, largest, accesses, planned}
use Rattle.plans.specs.Shortest.{Shortest}
use Rattle.plans.specs.Act.{acted, act_of, drawn}
use Rattle.plans.proofs.Act.{after_planes}
use Rattle.plans.proofs.Potential.{none_shorter, least_le}
use Rattle.plans.proofs.Planner.{plan_length, plan_accepted}

-- a list by its elements, the first apart
front : (n : ℕ) (f : ℕ → ℕ) → tabulate (suc n) f ≡ f 0 ∷ tabulate n (λ a. f (suc a))
unfolding tabulate
front zero f = refl
front (suc n) f = ap (λ (l : List ℕ). l ++ f (suc n) ∷ []) (front n f)

-- a list made n long with 0 after its end: waiting is allowed, and leaves the planes
abbrev pad : ℕ → List ℕ → List ℕ
pad n l = tabulate n (λ a. get_or l a 0)

every_pad : (f : ℕ → Bool) → f 0 ≡ true → (n : ℕ) (l : List ℕ) → every f l ≡ true → every f (pad n l) ≡ true
unfolding every tabulate
every_pad f z zero l e = refl
every_pad f z (suc n) [] e = rw (front n (λ a. 0), z) (every_pad f z n [] refl)
every_pad f z (suc n) (x ∷ l) e =
    rw (front n (λ a. get_or (x ∷ l) a 0), and_left (f x) (every f l) e) (every_pad f z n l (and_right (f x) (every f l) e))

drawn_pad : (n : ℕ) (l : List ℕ) (p : Planes) → length l ≤ n → drawn p (pad n l) ≡ drawn p l
unfolding drawn tabulate
drawn_pad zero [] p h = refl
drawn_pad zero (x ∷ l) p h = absurd (omega arith)
drawn_pad (suc n) [] p h = rw (front n (λ a. 0)) (drawn_pad n [] p (omega arith))
drawn_pad (suc n) (x ∷ l) p h = rw (front n (λ a. get_or (x ∷ l) a 0)) (drawn_pad n l (acted p (act_of x)) (omega arith))

accepted_pad : (d : Device) (q : Planes) (ws : List ℕ) (n : ℕ) → length ws ≤ n → Accepted d q ws → Accepted d q (pad n ws)
accepted_pad d q ws n l h =
    let e = every_pad (allowed d) refl n ws h.alone in
    record {
      alone = e;
      ends = after_planes (pad n ws) d e ∙ drawn_pad n ws d.registers.planes l ∙ sym (after_planes ws d h.alone) ∙ h.ends;
    }

-- the largest
largest_le : (n m : ℕ) (f : ℕ → ℕ) → ((i : ℕ) → i < n → f i ≤ m) → largest n f ≤ m
unfolding largest
largest_le zero m f h = omega arith
largest_le (suc n) m f h = omega (arith, largest_le n m f (λ i l. h i (omega arith)), h n (omega arith))

pub le_largest : (n : ℕ) (f : ℕ → ℕ) (i : ℕ) → i < n → f i ≤ largest n f
unfolding largest
le_largest zero f i h = absurd (omega arith)
le_largest (suc n) f i h = go (le_largest n f i) (dec_lt i n)
  where
    go : (i < n → f i ≤ largest n f) → Dec (i < n) → f i ≤ max (largest n f) (f n)
    go earlier (yes l) = omega (arith, earlier l)
    go earlier (no l) = let e : i ≡ n = omega arith in rw e (omega arith)

-- place i of access a
module _ (n a i : ℕ) (h : i < n) where
  pub place_div : (a * n + i) / n ≡ a
  place_div = mul-add-div_right (omega arith) a i ∙ rw (div-eq_of_lt h) (add-zero a)

  pub place_mod : (a * n + i) % n ≡ i
  place_mod = mul-add-mod_self_right a n i ∙ mod-eq_of_lt h

  pub place_lt : (k : ℕ) → a < k → a * n + i < k * n
  place_lt k l = omega (arith, mul-le-mul_right n l, suc-mul a n)

-- the words to place i of a list that is given by its elements
column : (k n : ℕ) (f : ℕ → ℕ) (i : ℕ) → i < n → words_at n (tabulate (k * n) f) i ≡ tabulate k (λ a. f (a * n + i))
column k n f i h =
    let e : length (tabulate (k * n) f) / n ≡ k = rw length_tabulate (mul-div_cancel k (omega arith)) in
    rw e (tabulate_ext k _ _ (λ a l. get_d_tabulate (k * n) f 0 (a * n + i) (place_lt n a i h k l)))

-- sixteen of the wanted bytes
small_part : (l : List ℕ) → ((k : ℕ) → get_or l k 0 < 256) → (n m : ℕ) → (k : ℕ) → get_or (take n (drop m l)) k 0 < 256
small_part l h n m k = go (dec_lt k n)
  where
    go : Dec (k < n) → get_or (take n (drop m l)) k 0 < 256
    go (yes j) = rw (get_or-take n (drop m l) k 0 j, get_or-drop) (h (m + k))
    go (no j) = rw (List·getD-eq-default (take n (drop m l)) 0 {n = k} (rw length-take (omega arith))) (omega arith)

-- a chain's list has at most 32 accesses
pub chain_most : (ds : List Device) (wanted : List ℕ) → accesses ds wanted ≤ 32
unfolding accesses
chain_most ds wanted = largest_le (length ds) 32 _ (λ i h. least_le (record_at ds i).registers.planes (wanted_at wanted i))

module _ (ds : List Device) (wanted : List ℕ) (g : Given ds wanted) where
  pub wanted_at_lem : (i : ℕ) → i < length ds → Wanted (wanted_at wanted i)
  wanted_at_lem i h =
      record {
        sized =
            record {
              first = simp (length-take, length-drop) (omega (arith, g.sized));
              second = simp (length-take, length-drop) (omega (arith, g.sized));
            };
        first = small_part wanted g.bytes 16 (32 * i);
        second = small_part wanted g.bytes 16 (32 * i + 16);
      }

  plan_of_at : ℕ → List ℕ
  plan_of_at i = plan_of (record_at ds i) (wanted_at wanted i)

  -- each driver's words of the planner's list
  own_words : (i : ℕ) → i < length ds → words_at (length ds) (planned ds wanted) i ≡ pad (accesses ds wanted) (plan_of_at i)
  unfolding planned plan_of_at
  own_words i h =
      let n = length ds in
      column (accesses ds wanted) n (λ m. get_or (plan_of_at (m % n)) (m / n) 0) i h
      ∙ tabulate_ext (accesses ds wanted) _ _ (λ a l. ap₂ (λ (x y : ℕ). get_or (plan_of_at x) y 0) (place_mod n a i h) (place_div n a i h))

  planned_length : length (planned ds wanted) ≡ accesses ds wanted * length ds
  unfolding planned
  planned_length = length_tabulate (accesses ds wanted * length ds) _

  -- the slowest driver's words have room, so each driver's
  enough : (i : ℕ) → i < length ds → length (plan_of_at i) ≤ accesses ds wanted
  unfolding plan_of_at accesses
  enough i h =
      rw (plan_length (record_at ds i).registers.planes (record_at ds i).registers.config (wanted_at wanted i))
      (le_largest (length ds) (λ j. least (record_at ds j).registers.planes (wanted_at wanted j)) i h)

  planned_accepted : AcceptedList ds wanted (planned ds wanted)
  unfolding plan_of_at
  planned_accepted =
      record {
        whole = rw planned_length (mul-mod_left (accesses ds wanted) (length ds));
        each =
            λ i h.
            rw (own_words i h)
            (accepted_pad (record_at ds i) (wanted_at wanted i) (plan_of_at i) (accesses ds wanted) (enough i h)
            (plan_accepted (record_at ds i) (wanted_at wanted i) (g.sound i h) (g.planes i h) (wanted_at_lem i h)));
      }

  -- an accepted list has as many accesses at least, so as many words
  fewest_accesses : (list : List ℕ) → AcceptedList ds wanted list → accesses ds wanted ≤ length list / length ds
  unfolding accesses
  fewest_accesses list a =
      largest_le (length ds) (length list / length ds) _
      (λ i h. rw length_tabulate at (none_shorter (record_at ds i) (wanted_at wanted i) (words_at (length ds) list i) (g.planes i h) (a.each i h)))

  chain_shorter : (list : List ℕ) → AcceptedList ds wanted list → length (planned ds wanted) ≤ length list
  chain_shorter list a =
      rw planned_length
      (omega (arith, mul-le-mul_right (length ds) (fewest_accesses list a), div-add-mod' (length list) (length ds)))

pub shortest : Shortest
shortest ds wanted g =
    record {
      accepted = planned_accepted ds wanted g;
      none_shorter = chain_shorter ds wanted g;
      counted = planned_length ds wanted g;
      at_most = chain_most ds wanted;
    }
