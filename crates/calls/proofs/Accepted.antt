-- What a call's number says of its arguments and of the chain, and what the call does by it.
-- Assumes nothing.
use Rattle.ground.proofs.Names.{ℕ, zero, suc, ◌≤◌, ◌<◌, arith, Bool, true, false, ◌&&◌, List, [], ◌∷◌, ◌≡◌, refl, eqb, leb, ltb, length, get_or, leb-true, ltb-true, ltb-false, eq-eqb, if, and_left, and_right, passed}
use Rattle.refusals.specs.Refusals.{bytes_for, chain_refusal, driver_refusal, sound_refusal, family_refusal, lack_refusal, first_of, size_refusal}
use Rattle.refusals.proofs.RefusalLaws.{first_zero, size_served as sizes-fit}
use Rattle.device.specs.Families.{families}
use Rattle.device.specs.declared.Device.{Device}
use Rattle.calls.specs.Calls.{levels, Call}
use Rattle.calls.specs.CallRefusals.{named_refusal, bytes_refusal, step_refusal, argument_refusal, families_below, lacks, all_sound, contents_refusal, shortest_refusal, refusal_by}
use Rattle.calls.specs.Served.{served, given_back, refused_back}
use Rattle.calls.specs.Outcome.{number, after, reply}
use Rattle.calls.specs.Isolation.{refusal_alone, accepted}

-- what the number 0 says
pub record Accepted (n : ℕ) (fs : List ℕ) (sound : Bool) (q : Call) : Type 0 where
  pub some : chain_refusal n ≡ 0
  pub named : named_refusal n q ≡ 0
  pub bytes : bytes_refusal q ≡ 0
  pub argument : argument_refusal fs q ≡ 0
  pub all_sound : sound ≡ true
  pub known : families_below 2 fs ≡ true
  pub has : lacks fs q ≡ false
  pub contents : contents_refusal n q ≡ 0

-- the first number of a list that isn't 0 is 0: each is
pub each_zero : (ks : List ℕ) → first_of ks ≡ 0 → (i : ℕ) → get_or ks i 0 ≡ 0
each_zero [] e i = refl
each_zero (k ∷ ks) e zero = (first_zero k ks e).0
each_zero (k ∷ ks) e (suc i) = each_zero ks (first_zero k ks e).1 i

-- a call that isn't lacking
not_lacking : (b : Bool) → lack_refusal b ≡ 0 → b ≡ false
not_lacking true z = absurd (omega (arith, z))
not_lacking false z = refl

-- each rule of the table gave 0
pub zero_says : (n : ℕ) (fs : List ℕ) (sound : Bool) (shortest : ℕ) (q : Call) → refusal_by n fs sound shortest q ≡ 0 → Accepted n fs sound q
zero_says n fs sound shortest q z =
    let each = each_zero (chain_refusal n ∷ named_refusal n q ∷ bytes_refusal q ∷ argument_refusal fs q ∷ sound_refusal sound ∷ family_refusal (families_below 2 fs) ∷ lack_refusal (lacks fs q) ∷ contents_refusal n q ∷ shortest ∷ []) z in
    record { some = each 0; named = each 1; bytes = each 2; argument = each 3; all_sound = (passed sound 0 6 (each 4)).0; known = (passed (families_below 2 fs) 0 13 (each 5)).0; has = not_lacking (lacks fs q) (each 6); contents = each 7 }

pub number_says : (q : Call) (ds : List Device) → number q ds ≡ 0 → Accepted (length ds) (families ds) (all_sound ds) q
unfolding number
number_says q ds = zero_says (length ds) (families ds) (all_sound ds) (shortest_refusal ds q) q

-- a call with the number 0 is served
pub after_zero : (q : Call) (ds : List Device) → number q ds ≡ 0 → after q ds ≡ served q ds
unfolding after
after_zero q ds z = rw z

pub reply_zero : (q : Call) (ds : List Device) → number q ds ≡ 0 → reply q ds ≡ given_back q ds
unfolding reply
reply_zero q ds z = rw z

-- one that changes no record where it is served changes none
pub after_same : (q : Call) (ds : List Device) → served q ds ≡ ds → after q ds ≡ ds
unfolding after
after_same q ds e = elim (eqb (number q ds) 0) as (λ b. if b (served q ds) ds ≡ ds) [ true ↦ e | false ↦ refl ]

-- a driver that is there
pub driver_there : (n j : ℕ) → driver_refusal n j ≡ 0 → (1 ≤ j) × (j ≤ n)
driver_there n j e =
    let t = (passed (ltb 0 j && leb j n) 0 1 e).0 in
    (ltb-true 0 j (and_left (ltb 0 j) (leb j n) t), leb-true j n (and_right (ltb 0 j) (leb j n) t))

-- sent bytes that are enough
pub sent_enough : (c sent room : ℕ) → size_refusal c sent room ≡ 0 → bytes_for c ≤ sent
sent_enough c sent room e = (sizes-fit c sent room e).1

-- pin levels that are five bits, and of a MAX6957 28
not_six : (b : Bool) → if {A = ℕ} b 6 0 ≡ 0 → b ≡ false
not_six true z = absurd (omega (arith, z))
not_six false z = refl

pub levels_fit : (f l : ℕ) → step_refusal f (levels l) ≡ 0 → f ≡ 0 → l < 32
levels_fit f l e z = omega (arith, ltb-false 31 l (not_six (ltb 31 l) (rw (eq-eqb f 0 z) at e)))

pub port_levels_fit : (f l : ℕ) → step_refusal f (levels l) ≡ 0 → f ≡ 1 → l < 268435456
port_levels_fit f l e o =
    let a : eqb f 0 ≡ false = rw o in
    omega (arith, ltb-false 268435455 l (not_six (ltb 268435455 l) (rw (a, eq-eqb f 1 o) at e)))

module _ (n : ℕ) (fs : List ℕ) (q : Call) (ds : List Device) (l : length ds ≡ n) (f : families ds ≡ fs) (s : all_sound ds ≡ true) (z : shortest_refusal ds q ≡ 0) where
  -- on sound records the arguments alone decide, but for 13
  pub number_alone : number q ds ≡ refusal_alone n fs q
  unfolding number
  number_alone = rw (l, f, s, z)

  -- accepted it is served, refused it changes nothing
  pub after_by : after q ds ≡ if (accepted n fs q) (served q ds) ds
  unfolding after
  after_by = rw number_alone

  pub reply_by : reply q ds ≡ if (accepted n fs q) (given_back q ds) (refused_back q)
  unfolding reply
  reply_by = rw number_alone
