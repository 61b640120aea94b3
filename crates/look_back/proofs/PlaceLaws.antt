-- The place of the last word at which a test holds: of a word after a list, of a part of it, and of two tests that agree.
-- Assumes nothing.
use Rattle.ground.proofs.Names.{ℕ, zero, suc, ◌<◌, ◌≤◌, not-suc-le-zero, le_of_suc-le-suc, arith, Bool, true, false, List, [], ◌∷◌, ◌++◌, ◌≡◌, refl, length, get_or, take, drop, take-suc, length-take-le, if}
use Rattle.look_back.specs.Stops.{place_before, last_place}

module _ (f : ℕ → Bool) where
  -- a word at the end at which the test holds, or doesn't
  snoc_stops : (xs : List ℕ) (w : ℕ) → last_place f (xs ++ w ∷ []) ≡ if (f w) (suc (length xs)) (last_place f xs)
  unfolding last_place
  snoc_stops [] w = elim (f w) as (λ b. place_before b 0 ≡ if b 1 0) [ true ↦ refl | false ↦ refl ]
  snoc_stops (x ∷ xs) w =
      let n = length xs in
      rw (snoc_stops xs w)
      (elim (f w) as (λ b. place_before (f x) (if b (suc n) (last_place f xs)) ≡ if b (suc (suc n)) (place_before (f x) (last_place f xs))) [ true ↦ refl | false ↦ refl ])

  -- the first m words, by the last of them
  pub stops_at : (ws : List ℕ) (k m : ℕ) → m ≡ suc k → m ≤ length ws → f (get_or ws k 0) ≡ true → last_place f (take m ws) ≡ m
  stops_at ws k m e h t =
      rw (e, take-suc ws k 0 (omega arith), snoc_stops (take k ws) (get_or ws k 0), t, length-take-le k ws (omega arith))

  pub goes_on : (ws : List ℕ) (k m : ℕ) → m ≡ suc k → m ≤ length ws → f (get_or ws k 0) ≡ false → last_place f (take m ws) ≡ last_place f (take k ws)
  goes_on ws k m e h t = rw (e, take-suc ws k 0 (omega arith), snoc_stops (take k ws) (get_or ws k 0), t)

  -- of no word
  pub no_words : (ws : List ℕ) (m : ℕ) → m ≡ 0 → last_place f (take m ws) ≡ 0
  unfolding last_place
  no_words ws m e = rw e

  -- it is a place of the list
  pub place_le : (ws : List ℕ) → last_place f ws ≤ length ws
  unfolding last_place
  place_le [] = omega arith
  place_le (w ∷ ws) = go (f w) (last_place f ws) (place_le ws)
    where
      go : (b : Bool) (n : ℕ) → n ≤ length ws → place_before b n ≤ length (w ∷ ws)
      go b (suc n) h = omega (arith, h)
      go true zero h = omega arith
      go false zero h = omega arith

  -- the test holds at the place, at which the list from there on has its own, and at none after it
  pub holds_there : (ws : List ℕ) (m : ℕ) → last_place f ws ≡ suc m → (f (get_or ws m 0) ≡ true) × (last_place f (drop m ws) ≡ 1)
  unfolding last_place
  holds_there [] m h = absurd (omega (arith, h))
  holds_there (w ∷ ws) m h = go (holds_there ws) (f w) refl (last_place f ws) refl h
    where
      go : ((n : ℕ) → last_place f ws ≡ suc n → (f (get_or ws n 0) ≡ true) × (last_place f (drop n ws) ≡ 1)) → (b : Bool) → f w ≡ b → (n : ℕ) → last_place f ws ≡ n
          → place_before b n ≡ suc m → (f (get_or (w ∷ ws) m 0) ≡ true) × (last_place f (drop m (w ∷ ws)) ≡ 1)
      go later b e (suc n) g h = let q : m ≡ suc n = omega (arith, h) in rw q (later n g)
      go later true e zero g h = let q : m ≡ 0 = omega (arith, h) in rw q (e, rw (e, g))
      go later false e zero g h = absurd (omega (arith, h))

  pub holds_not : (ws : List ℕ) (k : ℕ) → last_place f ws ≤ k → k < length ws → f (get_or ws k 0) ≡ false
  unfolding last_place
  holds_not [] k h l = absurd (not-suc-le-zero l)
  holds_not (w ∷ ws) k h l = go (holds_not ws) (f w) refl (last_place f ws) refl k h l
    where
      go : ((k : ℕ) → last_place f ws ≤ k → k < length ws → f (get_or ws k 0) ≡ false) → (b : Bool) → f w ≡ b → (n : ℕ) → last_place f ws ≡ n → (k : ℕ) → place_before b n ≤ k → k < length (w ∷ ws) → f (get_or (w ∷ ws) k 0) ≡ false
      go later b e (suc n) g zero h l = absurd (omega (arith, h))
      go later b e (suc n) g (suc k) h l = later k (rw g (omega (arith, h))) (le_of_suc-le-suc l)
      go later true e zero g zero h l = absurd (omega (arith, h))
      go later false e zero g zero h l = e
      go later true e zero g (suc k) h l = later k (rw g (omega arith)) (le_of_suc-le-suc l)
      go later false e zero g (suc k) h l = later k (rw g (omega arith)) (le_of_suc-le-suc l)

  -- a list has its place where its part that begins there has it at the first word
  pub drop_place : (ys : List ℕ) (j : ℕ) → last_place f (drop j ys) ≡ 1 → last_place f ys ≡ suc j
  unfolding last_place
  drop_place ys zero h = h
  drop_place [] (suc j) h = absurd (omega (arith, h))
  drop_place (y ∷ ys) (suc j) h = rw (drop_place ys j h)

-- tests that agree at every word of a list
pub place_ext : (f g : ℕ → Bool) (ws : List ℕ) → ((k : ℕ) → k < length ws → f (get_or ws k 0) ≡ g (get_or ws k 0)) → last_place f ws ≡ last_place g ws
unfolding last_place
place_ext f g [] h = refl
place_ext f g (w ∷ ws) h = rw (h 0 (omega arith), place_ext f g ws (λ k l. h (suc k) (omega arith)))
