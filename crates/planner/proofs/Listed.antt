-- The list with every driver's words in it is the planner's list, and the room after it as it was.
-- Assumes nothing.
use Rattle.ground.proofs.Names.{ℕ, zero, suc, ◌+◌, ◌*◌, ◌-◌, ◌/◌, ◌%◌, ◌<◌, ◌≤◌, mod-lt, div-lt_iff_lt-mul, div-add-mod', arith, ℕ_discrete, Bool, true, false, List, [], ◌∷◌, ◌++◌, ◌≡◌, refl, sym, ◌∙◌, leb, length, get_or, take, drop, replicate, length-append, length-replicate, take-append-drop, ext_get_or, get_or-take, length-take-le, lt-ltb, le-leb, if, length_tabulate, get_d_tabulate}
use Rattle.device.specs.PowerUp.{power_up}
use Rattle.device.specs.declared.Device.{Device}
use Rattle.plans.specs.Lists.{wanted_at}
use Rattle.plans.specs.Plan.{plan_of, accesses, planned}
use Rattle.plans.proofs.Planner.{plan_length}
use Rattle.plans.proofs.Lists.{le_largest, place_mod, place_lt, chain_most}
use Rattle.planner.specs.OneDriver.{put, in_room, with_driver, list_to}
use Rattle.planner.proofs.Puts.{length_put, put_other, put_own, put_rest}

length_with : (l wanted : List ℕ) (n k i : ℕ) (d : Device) → length (with_driver l wanted n k i d) ≡ length l
length_with l wanted n k i d = go (in_room (length l) (length wanted) n k i) (leb (length ws) k)
  where
    ws : List ℕ
    ws = plan_of d (wanted_at wanted i)

    go : (b c : Bool) → length (if b (if c (put l n i (ws ++ replicate (k - length ws) 0)) l) l) ≡ length l
    go true true = length_put (ws ++ replicate (k - length ws) 0) l n i
    go true false = refl
    go false c = refl

pub length_listed : (ds : List Device) (wanted list : List ℕ) (k m : ℕ) → length (list_to ds wanted list k m) ≡ length list
unfolding list_to
length_listed ds wanted list k zero = refl
length_listed ds wanted list k (suc m) =
    length_with (list_to ds wanted list k m) wanted (length ds) k _ (get_or ds m power_up) ∙ length_listed ds wanted list k m

-- no-ops after words read as nothing after them
get_d_waits : (ws : List ℕ) (m j : ℕ) → get_or (ws ++ replicate m 0) j 0 ≡ get_or ws j 0
get_d_waits [] zero j = refl
get_d_waits [] (suc m) zero = refl
get_d_waits [] (suc m) (suc j) = get_d_waits [] m j
get_d_waits (w ∷ ws) m zero = refl
get_d_waits (w ∷ ws) m (suc j) = get_d_waits ws m j

module _ (ds : List Device) (wanted list : List ℕ) (some : 0 < length ds) (few : length ds ≤ 16) (sized : length wanted ≡ 32 * length ds)
    (room : accesses ds wanted * length ds ≤ length list) where
  abbrev n : ℕ
  n = length ds

  abbrev k : ℕ
  k = accesses ds wanted

  abbrev own : ℕ → List ℕ
  own i = plan_of (get_or ds i power_up) (wanted_at wanted i)

  abbrev up_to : ℕ → List ℕ
  up_to m = list_to ds wanted list k m

  -- with the no-ops after them
  abbrev part : ℕ → List ℕ
  part i = own i ++ replicate (k - length (own i)) 0

  length_own : (m : ℕ) → m < n → length (own m) ≤ k
  unfolding accesses
  length_own m h = rw plan_length (le_largest n _ m h)

  length_part : (m : ℕ) → m < n → length (part m) ≡ k
  length_part m h = rw (length-append, length-replicate) (omega (arith, length_own m h))

  -- each driver's words fit
  next : (m : ℕ) → m < n → up_to (suc m) ≡ put (up_to m) n m (part m)
  unfolding list_to
  next m h =
      simp (
        lt-ltb m n h,
        lt-ltb n 17 (omega arith),
        lt-ltb k 33 (omega (arith, chain_most ds wanted)),
        lt-ltb m (length wanted / 32) (omega arith),
        le-leb (k * n) (length (up_to m)) (rw length_listed room),
        le-leb (length (own m)) k (length_own m h),
      )

  filled : (m : ℕ) → m ≤ n → (a i : ℕ) → a < k → i < n → i < m → get_or (up_to m) (a * n + i) 0 ≡ get_or (own i) a 0
  filled zero h a i g l r = absurd (omega arith)
  filled (suc m) h a i g l r = rw (next m h) (go (filled m (omega arith) a i g l) (ℕ_discrete i m))
    where
      go : (i < m → get_or (up_to m) (a * n + i) 0 ≡ get_or (own i) a 0) → Dec (i ≡ m)
          → get_or (put (up_to m) n m (part m)) (a * n + i) 0 ≡ get_or (own i) a 0
      go earlier (yes e) =
          rw e (put_own (part m) (up_to m) n m a some (rw (length_part m h) g) (rw length_listed (omega (arith, place_lt n a m h k g)))
          ∙ get_d_waits (own m) (k - length (own m)) a)
      go earlier (no e) =
          put_other (part m) (up_to m) n m (a * n + i) (λ j f. e (sym (place_mod n a i l) ∙ rw f (place_mod n j m h))) ∙ earlier (omega arith)

  rest : (m : ℕ) → m ≤ n → drop (k * n) (up_to m) ≡ drop (k * n) list
  unfolding list_to
  rest zero h = refl
  rest (suc m) h =
      rw (next m h) (put_rest (part m) (up_to m) n m (k * n) (rw (length_part m h) (omega arith)) ∙ rest m (omega arith))

  front : take (k * n) (up_to n) ≡ planned ds wanted
  unfolding planned
  front =
      let count : length (take (k * n) (up_to n)) ≡ k * n = length-take-le (k * n) (up_to n) (rw length_listed room) in
      ext_get_or 0 (take (k * n) (up_to n)) (planned ds wanted) (rw (count, length_tabulate))
      (λ x g.
      let h : x < k * n = omega arith in
      rw (get_or-take, get_d_tabulate)
      (rw (div-add-mod' x n) at (filled n (omega arith) (x / n) (x % n) ((div-lt_iff_lt-mul some).1 h) (mod-lt x some) (mod-lt x some))))

  pub listed : list_to ds wanted list (accesses ds wanted) (length ds) ≡ planned ds wanted ++ drop (accesses ds wanted * length ds) list
  listed = sym (take-append-drop (k * n) (up_to n)) ∙ rw (front, rest n (omega arith))
