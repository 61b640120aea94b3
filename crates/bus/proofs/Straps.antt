-- The part that a slave byte names.
-- Assumes nothing.
use Rattle.ground.proofs.Names.{ℕ, zero, suc, ◌+◌, ◌-◌, ◌/◌, ◌≤◌, ◌<◌, min, arith, not-suc-le-zero, Bool, true, false, List, [], ◌∷◌, ◌≡◌, refl, ◌∙◌, eqb, ltb, length, get_or, take, length-take, get_or-take, eqb-true, eqb-false, eq-eqb, ne_eqb, if, and_left, and_right}
use Rattle.bus.specs.Straps.{strap_of, further, place_of, matched, distinct, seven_bits}

-- two tests that hold together
same_test : (a b c d : ℕ) → (a ≡ b → c ≡ d) → (c ≡ d → a ≡ b) → eqb a b ≡ eqb c d
same_test a b c d f g = go (eqb c d) refl
  where
    go : (t : Bool) → eqb c d ≡ t → eqb a b ≡ t
    go true e = eq-eqb a b (g (eqb-true c d e))
    go false e = ne_eqb a b (λ p. eqb-false c d e (f p))

-- one place further on, as a sum
further_is : (p : ℕ) → further p ≡ p + min p 1
further_is zero = refl
further_is (suc p) = omega arith

-- among distinct numbers, a number's place is where it stands
place_own : (a : ℕ) (ss : List ℕ) → distinct ss ≡ true → (k : ℕ) → k < length ss → eqb (place_of a ss) (suc k) ≡ eqb (get_or ss k 0) a
unfolding place_of distinct
place_own a [] e k h = absurd (not-suc-le-zero h)
place_own a (s ∷ ss) e zero h =
    elim (eqb s a) as (λ t. eqb (if t 1 (further (place_of a ss))) 1 ≡ t)
    [ true ↦ refl | false ↦ ne_eqb (further (place_of a ss)) 1 (λ p. omega (arith, further_is (place_of a ss))) ]
place_own a (s ∷ ss) e (suc k) h = go (eqb s a) refl ∙ place_own a ss (and_right (eqb (place_of s ss) 0) (distinct ss) e) k (omega arith)
  where
    go : (t : Bool) → eqb s a ≡ t → eqb (if t 1 (further (place_of a ss))) (suc (suc k)) ≡ eqb (place_of a ss) (suc k)
    go true t =
        let z : place_of a ss ≡ 0 = rw (eqb-true s a t) at (eqb-true (place_of s ss) 0 (and_left (eqb (place_of s ss) 0) (distinct ss) e)) in
        same_test 1 (suc (suc k)) (place_of a ss) (suc k) (λ p. omega arith) (λ p. omega arith)
    go false t =
        let f = further_is (place_of a ss) in
        same_test (further (place_of a ss)) (suc (suc k)) (place_of a ss) (suc k) (λ p. omega arith) (λ p. omega arith)

place_le : (a : ℕ) (ss : List ℕ) → place_of a ss ≤ length ss
unfolding place_of
place_le a [] = omega arith
place_le a (s ∷ ss) =
    elim (eqb s a) as (λ t. if t 1 (further (place_of a ss)) ≤ suc (length ss))
    [ true ↦ omega arith | false ↦ omega (arith, further_is (place_of a ss), place_le a ss) ]

-- straps that a start, a byte and a stop are served with
pub record Served (n : ℕ) (σ : List ℕ) : Type 0 where
  pub few : n ≤ 16
  pub apart : distinct (take n σ) ≡ true
  pub seven : seven_bits (take n σ) ≡ true

module _ {n : ℕ} {σ : List ℕ} (sixteen : length σ ≡ 16) (w : Served n σ) (v i : ℕ) (h : 1 ≤ i) (g : i ≤ n) where
  -- a slave byte names part i exactly where its upper seven bits are the part's strap
  pub match_own : eqb (matched n σ v) i ≡ eqb (strap_of σ i) (v / 2)
  match_own =
      let j : suc (i - 1) ≡ i = omega arith in
      let l : i - 1 < length (take n σ) = rw length-take (omega (arith, w.few)) in
      rw (j, get_or-take n σ (i - 1) 0 (omega arith)) at (place_own (v / 2) (take n σ) w.apart (i - 1) l)

  pub matches : strap_of σ i ≡ v / 2 → matched n σ v ≡ i
  matches e = eqb-true _ i (match_own ∙ eq-eqb _ _ e)

-- it names none but those that are there
pub match_le : (n : ℕ) (σ : List ℕ) (v : ℕ) → matched n σ v ≤ n
match_le n σ v = omega (arith, place_le (v / 2) (take n σ), length-take n σ)

-- alone
pub match_alone : (s v : ℕ) (rest : List ℕ) → matched 1 (s ∷ rest) v ≡ if (eqb s (v / 2)) 1 0
unfolding place_of
match_alone s v rest = refl

-- a strap that counts is seven bits
pub seven_at : (ss : List ℕ) → seven_bits ss ≡ true → (k : ℕ) → ltb (get_or ss k 0) 128 ≡ true
unfolding seven_bits
seven_at [] e k = refl
seven_at (s ∷ ss) e zero = and_left (ltb s 128) (seven_bits ss) e
seven_at (s ∷ ss) e (suc k) = seven_at ss (and_right (ltb s 128) (seven_bits ss) e) k
