-- One driver's words by the planes alone, word by word, and digits compared one by one.
-- Assumes nothing.
use Rattle.ground.proofs.Names.{ℕ, zero, suc, ◌+◌, ◌*◌, ◌-◌, ◌/◌, ◌<◌, div-eq_of_lt, add-one, suc-mul, zero-add, arith, Bool, true, false, ◌&&◌, List, [], ◌∷◌, ◌++◌, ◌≡◌, refl, ap, ap₂, ◌∙◌, eqb, if, length, get_or, length-append, List·getD-append, ne_eqb, tabulate, tabulate_ext}
use Rattle.std.specs.Prelude.{Some, None}
use Rattle.std.proofs.Math.Nat.{add-div_left}
use Rattle.std.proofs.lemmas.List.{get_or-append_right}
use Rattle.digits.specs.declared.Planes.{Planes}
use Rattle.controls.specs.declared.Config.{Config}
use Rattle.device.specs.Table15.{after_words}
use Rattle.device.specs.declared.Device.{Device}
use Rattle.plans.specs.Words.{allowed_by, allowed, every}
use Rattle.plans.specs.Lists.{words_at}
use Rattle.plans.specs.Check.{below, same, accepted_words}
use Rattle.plans.specs.Least.{total, need_by, need_at, plain}
use Rattle.plans.specs.Act.{acted, act_of, drawn}
use Rattle.plans.proofs.Act.{after_planes}
use Rattle.planner.specs.OneDriver.{from_planes}

-- tests that are equal below n
pub below_ext : (n : ℕ) (f g : ℕ → Bool) → ((i : ℕ) → i < n → f i ≡ g i) → below n f ≡ below n g
unfolding below
below_ext zero f g h = refl
below_ext (suc n) f g h = ap₂ ◌&&◌ (below_ext n f g (λ i l. h i (omega arith))) (h n (omega arith))

-- planes are the same where no digit needs a word
both_zero : (a b : ℕ) → (eqb a 0 && eqb b 0) ≡ eqb (a + b) 0
both_zero zero b = rw zero-add
both_zero (suc a) b = rw (ne_eqb (suc a) 0 (λ e. omega (arith, e)), ne_eqb (suc a + b) 0 (λ e. omega (arith, e)))

below_total : (n : ℕ) (f : ℕ → Bool) (g : ℕ → ℕ) → ((k : ℕ) → f k ≡ eqb (g k) 0) → below n f ≡ eqb (total n g) 0
unfolding below total
below_total zero f g h = refl
below_total (suc n) f g h = ap₂ ◌&&◌ (below_total n f g h) (h n) ∙ both_zero (total n g) (g n)

needs_none : (r s v : Bool) → (r && s) ≡ eqb (need_by r s v) 0
needs_none true true true = refl
needs_none true true false = refl
needs_none true false true = refl
needs_none true false false = refl
needs_none false true true = refl
needs_none false true false = refl
needs_none false false true = refl
needs_none false false false = refl

pub same_plain : (p q : Planes) → same p q ≡ eqb (plain p q) 0
unfolding same
same_plain p q =
    below_total 16 _ (need_at p q)
    (λ k. needs_none (eqb (get_or p.p0 k 0) (get_or q.p0 k 0)) (eqb (get_or p.p1 k 0) (get_or q.p1 k 0)) (eqb (get_or q.p0 k 0) (get_or q.p1 k 0)))

pub words_planes : (d : Device) (q : Planes) (ws : List ℕ) → accepted_words d q ws ≡ from_planes d.registers.config q d.registers.planes ws
unfolding accepted_words
words_planes d q ws = go (every (allowed d) ws) refl
  where
    go : (b : Bool) → every (allowed d) ws ≡ b → (b && same (after_words d ws).registers.planes q) ≡ (b && same (drawn d.registers.planes ws) q)
    go true e = rw (after_planes ws d e)
    go false e = refl

-- a choice by a test, which was taken, or wasn't
pub some_taken : (b : Bool) (p q : Planes) → if b (Some p) None ≡ Some q → (b ≡ true) × (p ≡ q)
some_taken true p q e = (refl, cc)
some_taken false p q e = cc

pub none_taken : (b : Bool) (p : Planes) → if b (Some p) None ≡ None → b ≡ false
none_taken true p e = cc
none_taken false p e = refl

-- the first of some values, and the others
tabulate_first : (m : ℕ) (f : ℕ → ℕ) → tabulate (suc m) f ≡ f 0 ∷ tabulate m (λ a. f (suc a))
unfolding tabulate
tabulate_first zero f = refl
tabulate_first (suc m) f = ap (λ (l : List ℕ). l ++ f (suc m) ∷ []) (tabulate_first m f)

-- the words to place i of n: in a first access, and in those after it
module _ (n i : ℕ) (h : i < n) where
  pub words_next : (x rest : List ℕ) → length x ≡ n → words_at n (x ++ rest) i ≡ get_or x i 0 ∷ words_at n rest i
  words_next x rest e =
      let first : get_or (x ++ rest) (0 * n + i) 0 ≡ get_or x i 0 = let z : 0 * n + i ≡ i = omega arith in rw z (List·getD-append x rest 0 i (omega arith)) in
      let others : (a : ℕ) → a < length rest / n → get_or (x ++ rest) (suc a * n + i) 0 ≡ get_or rest (a * n + i) 0 = λ a l.
      let z : suc a * n + i - n ≡ a * n + i = omega (arith, suc-mul a n) in
      get_or-append_right x rest n (suc a * n + i) 0 e (omega (arith, suc-mul a n)) ∙ rw z in
      rw (length-append, e, add-div_left (length rest) {k = n} (omega arith), add-one, tabulate_first)
      (ap₂ ◌∷◌ first (tabulate_ext (length rest / n) _ _ others))

  pub words_none : (rest : List ℕ) → length rest < n → words_at n rest i ≡ []
  unfolding tabulate
  words_none rest e = rw (div-eq_of_lt e)

  module _ (c : Config) (q p : Planes) where
    pub word_taken : (x rest : List ℕ) → length x ≡ n → allowed_by c (get_or x i 0) ≡ true
        → from_planes c q p (words_at n (x ++ rest) i) ≡ from_planes c q (acted p (act_of (get_or x i 0))) (words_at n rest i)
    unfolding every drawn
    word_taken x rest e t = rw (words_next x rest e, t)

    pub word_refused : (x rest : List ℕ) → length x ≡ n → allowed_by c (get_or x i 0) ≡ false → from_planes c q p (words_at n (x ++ rest) i) ≡ false
    unfolding every drawn
    word_refused x rest e t = rw (words_next x rest e, t)

    pub words_done : (rest : List ℕ) → length rest < n → from_planes c q p (words_at n rest i) ≡ same p q
    unfolding every drawn
    words_done rest e = rw (words_none rest e)
