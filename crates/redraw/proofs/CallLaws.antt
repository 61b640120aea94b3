-- The outcome of the planner's call and of its check, by the number as it is found and by the passes over the chain.
--     own_is     the number before 13.        own-zero       what a number of 0 tells of the chain and of the wanted contents
--     plan_outcome, check_outcome      the outcomes, and by what refuses
-- Assumes nothing.
use Rattle.ground.proofs.Names.{ℕ, ◌*◌, ◌%◌, ◌<◌, ◌≤◌, arith, Bool, true, false, not, ◌&&◌, List, [], ◌∷◌, ◌++◌, ◌≡◌, refl, sym, ap, ◌∙◌, eqb, ltb, length, drop, eqb-true, ne_eqb, ltb-true, ltb-false, lt-ltb, if, passed, and_left, and_right}
use Rattle.std.specs.Prelude.{Result, Ok, Err, IsErrAnd}
use Rattle.refusals.specs.declared.Refusal.{Refusal}
use Rattle.refusals.specs.Refusals.{chain_refusal, sound_refusal, family_refusal, lack_refusal, wanted_refusal, list_refusal, first_of}
use Rattle.refusals.proofs.RefusalLaws.{first_zero, first_last, found_last}
use Rattle.device.specs.Families.{families}
use Rattle.device.specs.declared.Device.{Device}
use Rattle.plans.specs.Check.{accepted_list}
use Rattle.plans.specs.Plan.{accesses, planned}
use Rattle.planner.specs.OneDriver.{reach_to, accept_to, list_to}
use Rattle.planner.proofs.ChainLaws.{reach_accesses, accept_list}
use Rattle.planner.proofs.Listed.{listed}
use Rattle.calls.specs.Calls.{plan, plan_check, ask_chain}
use Rattle.calls.specs.CallRefusals.{families_below, all_sound}
use Rattle.calls.specs.Outcome.{number, reply, outcome}
use Rattle.calls.proofs.Accepted.{after_same}
use Rattle.pass.specs.Found.{to_pass, row_refusal}
use Rattle.pass.proofs.FoundLaws.{chain_long}

pub below_more : (fs : List ℕ) → families_below 1 fs ≡ true → families_below 2 fs ≡ true
unfolding families_below
below_more [] e = refl
below_more (f ∷ fs) e =
    rw (lt-ltb f 2 (omega (arith, ltb-true f 1 (and_left (ltb f 1) (families_below 1 fs) e))), below_more fs (and_right (ltb f 1) (families_below 1 fs) e))

module _ (ds : List Device) (wanted : List ℕ) where
  abbrev n : ℕ
  n = length ds

  -- 1, 7 and 14, as a call that asks the whole row has them
  abbrev pub early : ℕ
  early = row_refusal ds

  -- and 12
  abbrev pub own : ℕ
  own = first_of (early ∷ wanted_refusal n (length wanted) ∷ [])

  abbrev kinds : ℕ
  kinds = family_refusal (families_below 1 (families ds))

  some : chain_refusal n ≡ 0 → 0 < n
  some e = ltb-true 0 n (and_left (ltb 0 n) (ltb n 17) (passed (ltb 0 n && ltb n 17) 0 0 e).0)

  own_is : own ≡ first_of (chain_refusal n ∷ sound_refusal (all_sound ds) ∷ kinds ∷ wanted_refusal n (length wanted) ∷ [])
  own_is =
      ap (λ (w : ℕ). if (eqb early 0) w early) (first_last (wanted_refusal n (length wanted)))
      ∙ found_last (chain_refusal n ∷ sound_refusal (all_sound ds) ∷ kinds ∷ []) (wanted_refusal n (length wanted))

  -- the two reasons of 14 are one here: an unknown family is no old one
  once : (rest : List ℕ) → first_of (family_refusal (families_below 2 (families ds)) ∷ lack_refusal (not (families_below 1 (families ds))) ∷ rest) ≡ first_of (kinds ∷ rest)
  once rest = go (families_below 1 (families ds)) (families_below 2 (families ds)) (below_more (families ds))
    where
      go : (a b : Bool) → (a ≡ true → b ≡ true) → first_of (family_refusal b ∷ lack_refusal (not a) ∷ rest) ≡ first_of (family_refusal a ∷ rest)
      go true b f = rw (f refl)
      go false true f = refl
      go false false f = refl

  all_once : (rest : List ℕ)
      → first_of (chain_refusal n ∷ sound_refusal (all_sound ds) ∷ family_refusal (families_below 2 (families ds)) ∷ lack_refusal (not (families_below 1 (families ds))) ∷ rest)
      ≡ first_of (chain_refusal n ∷ sound_refusal (all_sound ds) ∷ kinds ∷ rest)
  all_once rest = ap (λ (k : ℕ). if (eqb (chain_refusal n) 0) (if (eqb (sound_refusal (all_sound ds)) 0) k (sound_refusal (all_sound ds))) (chain_refusal n)) (once rest)

  -- a number of 0 tells: some drivers, at most 16, with 32 wanted bytes each
  own_zero : own ≡ 0 → (0 < n) × (n ≤ 16) × (length wanted ≡ 32 * n)
  own_zero z =
      let a = first_zero (chain_refusal n) (sound_refusal (all_sound ds) ∷ kinds ∷ wanted_refusal n (length wanted) ∷ []) (sym own_is ∙ z) in
      let b = first_zero (sound_refusal (all_sound ds)) (kinds ∷ wanted_refusal n (length wanted) ∷ []) a.1 in
      let c = first_zero (wanted_refusal n (length wanted)) [] (first_zero kinds (wanted_refusal n (length wanted) ∷ []) b.1).1 in
      (some a.0, chain_long n a.0, eqb-true _ _ (passed (eqb (length wanted) (32 * n)) 0 11 c.0).0)

  module _ (list : List ℕ) where
    abbrev most : ℕ
    most = reach_to ds wanted (to_pass own n)

    -- and 13
    abbrev pub number_of_plan : ℕ
    number_of_plan = first_of (own ∷ list_refusal n most (length list) ∷ [])

    most_is : own ≡ 0 → most ≡ accesses ds wanted
    most_is z = rw z (reach_accesses ds wanted (own_zero z).2)

    plan_number : number (ask_chain (plan wanted list)) ds ≡ number_of_plan
    unfolding number
    plan_number =
        all_once (wanted_refusal n (length wanted) ∷ list_refusal n (accesses ds wanted) (length list) ∷ [])
        ∙ sym (found_last (chain_refusal n ∷ sound_refusal (all_sound ds) ∷ kinds ∷ wanted_refusal n (length wanted) ∷ []) (list_refusal n (accesses ds wanted) (length list)))
        ∙ ap (λ (k : ℕ). if (eqb k 0) (list_refusal n (accesses ds wanted) (length list)) k) (sym own_is)
        ∙ go (eqb own 0) refl
      where
        go : (b : Bool) → eqb own 0 ≡ b → if b (list_refusal n (accesses ds wanted) (length list)) own ≡ if b (first_of (list_refusal n most (length list) ∷ [])) own
        go true e = rw (most_is (eqb-true own 0 e)) (sym (first_last (list_refusal n (accesses ds wanted) (length list))))
        go false e = refl

    -- the list's words, or the list as it was
    plan_list : (b : Bool) → eqb number_of_plan 0 ≡ b
        → if b (accesses ds wanted ∷ planned ds wanted ++ drop (accesses ds wanted * n) list) (0 ∷ list) ≡ (if b most 0) ∷ list_to ds wanted list most (if b n 0)
    unfolding list_to
    plan_list true e =
        let z = first_zero own (list_refusal n most (length list) ∷ []) (eqb-true number_of_plan 0 e) in
        let g = own_zero z.0 in
        let r = first_zero (list_refusal n most (length list)) [] z.1 in
        let f : accesses ds wanted * n ≤ length list = room (accesses ds wanted) (ap (λ (k : ℕ). list_refusal n k (length list)) (sym (most_is z.0)) ∙ r.0) in
        rw (most_is z.0) (ap (λ (l : List ℕ). accesses ds wanted ∷ l) (sym (listed ds wanted list g.0 g.1 g.2 f)))
      where
        room : (k : ℕ) → list_refusal n k (length list) ≡ 0 → k * n ≤ length list
        room k e = ltb-false _ _ (go (ltb (length list) (k * n)) e)
          where
            go : (b : Bool) → if {A = ℕ} b 13 0 ≡ 0 → b ≡ false
            go true z = absurd (omega (arith, z))
            go false z = refl
    plan_list false e = refl

    pub plan_outcome : outcome (ask_chain (plan wanted list)) ds
        ≡ record { number = number_of_plan; records = ds; back = (if (eqb number_of_plan 0) most 0) ∷ list_to ds wanted list most (to_pass number_of_plan n) }
    unfolding reply
    plan_outcome = rw (plan_number, after_same (ask_chain (plan wanted list)) ds refl, plan_list (eqb number_of_plan 0) refl)

    -- by what refuses: the whole row, the wanted contents, the room of the list
    pub by_row : (k : ℕ) → early ≡ k → (k ≡ 0 → ⊥) → number_of_plan ≡ k
    by_row k e f = rw (e, ne_eqb k 0 f, ne_eqb k 0 f)

    pub by_wanted : (k : ℕ) → early ≡ 0 → wanted_refusal n (length wanted) ≡ k → (k ≡ 0 → ⊥) → number_of_plan ≡ k
    by_wanted k e w f = rw (e, w, ne_eqb k 0 f, ne_eqb k 0 f)

    pub by_list : early ≡ 0 → wanted_refusal n (length wanted) ≡ 0 → number_of_plan ≡ list_refusal n (reach_to ds wanted n) (length list)
    by_list e w = rw (e, w) (first_last (list_refusal n (reach_to ds wanted n) (length list)))

    pub plan_refused : (k : ℕ) → number_of_plan ≡ k → (k ≡ 0 → ⊥) → outcome (ask_chain (plan wanted list)) ds ≡ record { number = k; records = ds; back = 0 ∷ list }
    unfolding list_to
    plan_refused k e f = plan_outcome ∙ rw (e, ne_eqb k 0 f)

    pub plan_served : number_of_plan ≡ 0
        → outcome (ask_chain (plan wanted list)) ds ≡ record { number = 0; records = ds; back = reach_to ds wanted n ∷ list_to ds wanted list (reach_to ds wanted n) n }
    plan_served e = plan_outcome ∙ rw (e, (first_zero own (list_refusal n most (length list) ∷ []) e).0)

    abbrev each : Bool
    each = accept_to ds n wanted list (to_pass own n)

    check_number : number (ask_chain (plan_check wanted list)) ds ≡ own
    unfolding number
    check_number = all_once (wanted_refusal n (length wanted) ∷ []) ∙ sym own_is

    check_answer : (b : Bool) → eqb own 0 ≡ b
        → if {A = List ℕ} b (if (accepted_list ds wanted list) 1 0 ∷ []) (0 ∷ []) ≡ if (b && ltb 0 n && eqb (length list % n) 0 && accept_to ds n wanted list (if b n 0)) 1 0 ∷ []
    check_answer true e =
        let g = own_zero (eqb-true own 0 e) in
        rw (lt-ltb 0 n g.0, sym (accept_list ds wanted list g.1 g.2)) refl
    check_answer false e = refl

    pub check_outcome : outcome (ask_chain (plan_check wanted list)) ds
        ≡ record { number = own; records = ds; back = if (eqb own 0 && ltb 0 n && eqb (length list % n) 0 && each) 1 0 ∷ [] }
    unfolding reply
    check_outcome = rw (check_number, after_same (ask_chain (plan_check wanted list)) ds refl, check_answer (eqb own 0) refl)

    pub check_by_row : (k : ℕ) → early ≡ k → (k ≡ 0 → ⊥) → own ≡ k
    check_by_row k e f = rw (e, ne_eqb k 0 f)

    pub check_by_wanted : early ≡ 0 → own ≡ wanted_refusal n (length wanted)
    check_by_wanted e = rw e (first_last (wanted_refusal n (length wanted)))

    pub check_refused : (k : ℕ) → own ≡ k → (k ≡ 0 → ⊥)
        → outcome (ask_chain (plan_check wanted list)) ds ≡ record { number = k; records = ds; back = if (ltb 0 n && eqb (length list % n) 0 && false) 1 0 ∷ [] }
    check_refused k e f = check_outcome ∙ rw (e, ne_eqb k 0 f, none (ltb 0 n && eqb (length list % n) 0))
      where
        none : (b : Bool) → (b && false) ≡ false
        none true = refl
        none false = refl

    pub check_served : own ≡ 0
        → outcome (ask_chain (plan_check wanted list)) ds
        ≡ record { number = 0; records = ds; back = if (ltb 0 n && eqb (length list % n) 0 && accept_to ds n wanted list n) 1 0 ∷ [] }
    check_served e = check_outcome ∙ rw e

-- what `?` gives out is the refusal that it met
pub err_is : {A : Type 0} (r : Result A Refusal) (e : Refusal) → IsErrAnd r (λ x. x ≡ e) → r ≡ Err e
err_is (Ok x) e h = absurd h
err_is (Err x) e h = ap Err h
