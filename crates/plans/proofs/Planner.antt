-- The planner's own words for one driver are accepted, and as many as the least number.
-- Assumes nothing.
use Rattle.ground.proofs.Names.{ℕ, zero, suc, ◌+◌, ◌*◌, ◌/◌, ◌%◌, ◌^◌, ◌<◌, ◌≤◌, arith, Bool, true, false, or-true, List, [], ◌∷◌, ◌++◌, append_assoc, append-nil, ◌≡◌, refl, ap, ◌∙◌, eqb, ltb, length, get_or, set, take, drop, length-append, drop_of_length-le, take-suc, drop-cons, set_at, length-take-le, take_all, eqb-true, ltb-true, ltb-false, if, and_left, and_right, all, all_at}
use Rattle.words.specs.declared.Plane.TheVariants.{P0, P1}
use Rattle.digits.specs.Digits.{cleared}
use Rattle.digits.specs.declared.Planes.{Planes}
use Rattle.controls.specs.Config.{sound_config}
use Rattle.controls.specs.declared.Config.{Config}
use Rattle.registers.proofs.Sound.{parts}
use Rattle.device.specs.Sound.{sound_of}
use Rattle.device.specs.declared.Device.{Device}
use Rattle.device.proofs.Sound.{registers_sound}
use Rattle.plans.specs.Words.{allowed_by, allowed, every, Accepted, Sized, Wanted}
use Rattle.plans.specs.Least.{need_by, need_at, total, plain, anew, least}
use Rattle.plans.specs.Plan.{put0, put1, put_both, clear_word, words_by, digit_words_at, steps, clears, plan_by, plan_of}
use Rattle.plans.specs.Act.{one, both, clear, acted, act_of, drawn}
use Rattle.plans.specs.Shortest.{OneDriver}
use Rattle.plans.proofs.Act.{all_four, after_planes}
use Rattle.plans.proofs.Potential.{none_shorter, least_le}

-- a digit write by its register, digit and byte
module _ (k v : ℕ) (hk : k < 16) (hv : v < 256) where
  pub digit_parts : (r : ℕ) → ((r * 4096 + k * 256 + v) / 4096 ≡ r) × ((r * 4096 + k * 256 + v) / 256 % 16 ≡ k) × ((r * 4096 + k * 256 + v) % 256 ≡ v)
  digit_parts r = omega arith

  -- what the planner's words do, and that they are allowed
  acts : (act_of (put0 k v) ≡ one P0 k v) × (act_of (put1 k v) ≡ one P1 k v) × (act_of (put_both k v) ≡ both k v)
  acts = (
    rw ((digit_parts 2).0, (digit_parts 2).1, (digit_parts 2).2),
    rw ((digit_parts 4).0, (digit_parts 4).1, (digit_parts 4).2),
    rw ((digit_parts 6).0, (digit_parts 6).1, (digit_parts 6).2),
  )

  may : (c : Config) → (allowed_by c (put0 k v) ≡ true) × (allowed_by c (put1 k v) ≡ true) × (allowed_by c (put_both k v) ≡ true)
  may c = (rw ((digit_parts 2).0, or-true), rw ((digit_parts 4).0, or-true), rw ((digit_parts 6).0, or-true (eqb (put_both k v) 0)))

-- the word that clears does so, and is allowed, at each of the sixteen configurations
clear_word_lem : (c : Config) → (c.i < 2) × (c.e < 2) × (c.b < 2) × (c.s < 2) → (act_of (clear_word c) ≡ clear) × (allowed_by c (clear_word c) ≡ true)
clear_word_lem c h =
    let a : clear_word c / 4096 ≡ 0 = omega arith in
    let b : clear_word c / 256 ≡ 4 = omega arith in
    let e : clear_word c % 256 / 2 ^ 5 % 2 ≡ 1 = omega arith in (
      rw (a, b, e),
      all_at (λ s. at c.i c.e c.b s) 2
          (all_at (λ b. all (λ s. at c.i c.e b s) 2) 2
          (all_at (λ e. all (λ b. all (λ s. at c.i e b s) 2) 2) 2
          (all_at (λ i. all (λ e. all (λ b. all (λ s. at i e b s) 2) 2) 2) 2 refl c.i h.0) c.e h.1) c.b h.2) c.s h.3,
    )
  where
    at : ℕ → ℕ → ℕ → ℕ → Bool
    at i e b s = allowed_by (record { i = i; e = e; b = b; s = s }) (clear_word (record { i = i; e = e; b = b; s = s }))

-- lists of words one after the other
drawn_append : (xs ys : List ℕ) (p : Planes) → drawn p (xs ++ ys) ≡ drawn (drawn p xs) ys
unfolding drawn
drawn_append [] ys p = refl
drawn_append (x ∷ xs) ys p = drawn_append xs ys (acted p (act_of x))

every_append : (f : ℕ → Bool) (xs ys : List ℕ) → every f xs ≡ true → every f ys ≡ true → every f (xs ++ ys) ≡ true
unfolding every
every_append f [] ys h g = g
every_append f (x ∷ xs) ys h g =
    rw (and_left (f x) (every f xs) h) (every_append f xs ys (and_right (f x) (every f xs) h) g)

-- one plane: the digits below n are the wanted ones, then also digit n
abbrev mix : List ℕ → List ℕ → ℕ → List ℕ
mix p q n = take n q ++ drop n p

-- digit n set, or kept where it is right
abbrev Step : List ℕ → List ℕ → ℕ → Type 0
Step p q n = (set (mix p q n) n (get_or q n 0) ≡ mix p q (suc n)) × (get_or p n 0 ≡ get_or q n 0 → mix p q n ≡ mix p q (suc n))

mix_step : (p q : List ℕ) (n : ℕ) → n < length p → n < length q → Step p q n
mix_step p q n hp hq = (
  rw (drop-cons p n 0 hp, set_at (take n q) _ _ _ n (length-take-le n q (omega arith)), take-suc q n 0 hq, append_assoc),
  λ e. rw (drop-cons p n 0 hp, take-suc q n 0 hq, append_assoc, e),
)

-- the planes after the words of the digits below n
mixed : Planes → Planes → ℕ → Planes
mixed p q n = record { p0 = mix p.p0 q.p0 n; p1 = mix p.p1 q.p1 n }

module _ (p q : Planes) (zp : Sized p) (w : Wanted q) where
  digit_drawn : (n : ℕ) → n < 16 → drawn (mixed p q n) (digit_words_at p q n) ≡ mixed p q (suc n)
  unfolding drawn mixed
  digit_drawn n h = go _ _ _ refl refl refl
    where
      first : Step p.p0 q.p0 n
      first = mix_step p.p0 q.p0 n (rw zp.first h) (rw w.sized.first h)

      second : Step p.p1 q.p1 n
      second = mix_step p.p1 q.p1 n (rw zp.second h) (rw w.sized.second h)

      go : (s u t : Bool) → eqb (get_or p.p0 n 0) (get_or q.p0 n 0) ≡ s → eqb (get_or p.p1 n 0) (get_or q.p1 n 0) ≡ u
          → eqb (get_or q.p0 n 0) (get_or q.p1 n 0) ≡ t → drawn (mixed p q n) (words_by s u t n (get_or q.p0 n 0) (get_or q.p1 n 0)) ≡ mixed p q (suc n)
      go true true t e f g = rw (first.1 (eqb-true _ _ e), second.1 (eqb-true _ _ f))
      go true false t e f g = rw ((acts n _ h (w.second n)).1, first.1 (eqb-true _ _ e), second.0)
      go false true t e f g = rw ((acts n _ h (w.first n)).0, first.0, second.1 (eqb-true _ _ f))
      go false false true e f g = rw ((acts n _ h (w.first n)).2, first.0, eqb-true (get_or q.p0 n 0) _ g, second.0)
      go false false false e f g = rw ((acts n _ h (w.first n)).0, (acts n _ h (w.second n)).1, first.0, second.0)

  steps_drawn : (n : ℕ) → n ≤ 16 → drawn p (steps p q n) ≡ mixed p q n
  unfolding drawn mixed steps
  steps_drawn zero h = refl
  steps_drawn (suc n) h =
      drawn_append (steps p q n) (digit_words_at p q n) p
      ∙ (rw (steps_drawn n (omega arith)) (digit_drawn n h))

  steps_end : drawn p (steps p q 16) ≡ q
  unfolding mixed
  steps_end =
      steps_drawn 16 (omega arith)
      ∙ (simp (
        take_all 16 q.p0 (omega (arith, w.sized.first)),
        take_all 16 q.p1 (omega (arith, w.sized.second)),
        drop_of_length-le p.p0 {i = 16} (omega (arith, zp.first)),
        drop_of_length-le p.p1 {i = 16} (omega (arith, zp.second)),
        append-nil,
      ))

-- as many words as the rule says
length_words : (k x y : ℕ) (r s v : Bool) → length (words_by r s v k x y) ≡ need_by r s v
length_words k x y true true true = refl
length_words k x y true true false = refl
length_words k x y true false true = refl
length_words k x y true false false = refl
length_words k x y false true true = refl
length_words k x y false true false = refl
length_words k x y false false true = refl
length_words k x y false false false = refl

pub length_steps : (p q : Planes) (n : ℕ) → length (steps p q n) ≡ total n (need_at p q)
unfolding steps total
length_steps p q zero = refl
length_steps p q (suc n) = rw (length-append, length_steps p q n, length_words)

-- and allowed
digit_may : (c : Config) (p q : Planes) → Wanted q → (k : ℕ) → k < 16 → every (allowed_by c) (digit_words_at p q k) ≡ true
unfolding every
digit_may c p q w k h = go (eqb (get_or p.p0 k 0) (get_or q.p0 k 0)) (eqb (get_or p.p1 k 0) (get_or q.p1 k 0)) (eqb (get_or q.p0 k 0) (get_or q.p1 k 0))
  where
    go : (s u t : Bool) → every (allowed_by c) (words_by s u t k (get_or q.p0 k 0) (get_or q.p1 k 0)) ≡ true
    go true true t = refl
    go true false t = rw (may k _ h (w.second k) c).1
    go false true t = rw (may k _ h (w.first k) c).0
    go false false true = rw (may k _ h (w.first k) c).2
    go false false false = rw ((may k _ h (w.first k) c).0, (may k _ h (w.second k) c).1)

steps_may : (c : Config) (p q : Planes) → Wanted q → (n : ℕ) → n ≤ 16 → every (allowed_by c) (steps p q n) ≡ true
unfolding every steps
steps_may c p q w zero h = refl
steps_may c p q w (suc n) h =
    every_append (allowed_by c) (steps p q n) (digit_words_at p q n) (steps_may c p q w n (omega arith)) (digit_may c p q w n h)

-- the plan's length is the least number
pub plan_length : (p : Planes) (c : Config) (q : Planes) → length (plan_by p c q) ≡ least p q
unfolding plan_by
plan_length p c q = go (clears p q) refl
  where
    go : (b : Bool) → clears p q ≡ b → length (if b (clear_word c ∷ steps cleared q 16) (steps p q 16)) ≡ least p q
    go true e = omega (arith, length_steps cleared q 16, ltb-true (anew q) (plain p q) e)
    go false e = omega (arith, length_steps p q 16, ltb-false (anew q) (plain p q) e)

-- one bit each
config_bits : (c : Config) → sound_config c ≡ true → (c.i < 2) × (c.e < 2) × (c.b < 2) × (c.s < 2)
config_bits c h =
    let t = all_four (ltb c.i 2) (ltb c.e 2) (ltb c.b 2) (ltb c.s 2) h in
    (ltb-true _ 2 t.0, ltb-true _ 2 t.1, ltb-true _ 2 t.2, ltb-true _ 2 t.3)

-- it is accepted
pub plan_accepted : (d : Device) (q : Planes) → sound_of d ≡ true → Sized d.registers.planes → Wanted q → Accepted d q (plan_of d q)
unfolding plan_by every drawn
plan_accepted d q s z w = go (clears p q)
  where
    p : Planes
    p = d.registers.planes

    c : Config
    c = d.registers.config

    accepted : (ws : List ℕ) → every (allowed d) ws ≡ true → drawn p ws ≡ q → Accepted d q ws
    accepted ws h e = record { alone = h; ends = after_planes ws d h ∙ e }

    go : (b : Bool) → Accepted d q (if b (clear_word c ∷ steps cleared q 16) (steps p q 16))
    go true =
        let clear = clear_word_lem c (config_bits c (parts d.registers (registers_sound d s)).config) in
        accepted (clear_word c ∷ steps cleared q 16)
        (rw clear.1 (steps_may c cleared q w 16 (omega arith)))
        (ap (λ a. drawn (acted p a) (steps cleared q 16)) clear.0 ∙ steps_end cleared q (record { first = refl; second = refl }) w)
    go false = accepted (steps p q 16) (steps_may c p q w 16 (omega arith)) (steps_end p q z w)

pub one_driver : OneDriver
one_driver d q s z w =
    let e = plan_length d.registers.planes d.registers.config q in
    record {
      accepted = plan_accepted d q s z w;
      none_shorter = λ ws h. rw e (none_shorter d q ws z h);
      at_most = rw e (least_le d.registers.planes q);
    }
