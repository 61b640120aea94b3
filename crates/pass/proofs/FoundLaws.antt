-- The number as it is found is the number of the call, and the outcome of a call that names a driver by it.
--     pass_below, pass_le, pass-in-below, pass-in-le, in-room-below, in-room-le     a record that is passed is one of the chain
--     call_first, call-records, call-old, row-found       the number found is `callRefusal`, or `rowRefusal`
--     records_found                                that of the records
--     access_old, access-mixed                     that of an access
--     in_range, own-zero                           what a number of 0 tells of the driver and the argument
--     give_served, give-refused, ask-served, ask-refused       the outcome
-- Assumes nothing.
use Rattle.ground.proofs.Names.{ℕ, zero, suc, ◌-◌, ◌≤◌, ◌<◌, arith, true≢false, Bool, true, false, ◌&&◌, List, [], ◌∷◌, ◌≡◌, refl, sym, ap, ◌∙◌, eqb, leb, ltb, length, get_or, set, take, take-length, List·getD-map, ne_eqb, leb-true, ltb-true, lt-ltb, le-leb, if, passed, and_left, and_right}
use Rattle.refusals.specs.Refusals.{chain_refusal, driver_refusal, sound_refusal, family_refusal, first_of}
use Rattle.refusals.proofs.RefusalLaws.{first_zero, found_rest}
use Rattle.device.specs.Families.{families}
use Rattle.device.specs.PowerUp.{power_up}
use Rattle.device.specs.declared.Device.{Device}
use Rattle.calls.specs.Calls.{Step, Question, give, ask}
use Rattle.calls.specs.CallRefusals.{family_at, families_below, question_refusal, all_sound}
use Rattle.calls.specs.Served.{stepped, answer_to, refused_to}
use Rattle.calls.specs.Outcome.{number, after, reply, outcome}
use Rattle.calls.proofs.Accepted.{each_zero, driver_there}
use Rattle.pass.specs.Own.{argument_at, lack_at, row_lack_at, row_own, step_own, question_own}
use Rattle.pass.specs.Widths.{no_widths, widths_of, fit, all_old, AllBytes}
use Rattle.pass.specs.Found.{by_arguments, to_pass, to_pass_in, in_room, found, found_old, found_by, records_refusal, call_refusal, row_refusal}
use Rattle.pass.proofs.OwnLaws.{step_argument, step_lack, step_row, question_argument, question_lack, question_row, row_argument}
use Rattle.pass.specs.Seen.{no_seen, seen_of, seen_fit}
use Rattle.pass.proofs.WidthLaws.{old_of, fit_old}
use Rattle.pass.proofs.SeenLaws.{seen_fit_lem, seen_known, seen_old}

-- ---- a record that is passed is one of the chain
if_below : (b : Bool) (n i : ℕ) → i < if b n 0 → (b ≡ true) × (i < n)
if_below true n i l = (refl, l)
if_below false n i l = absurd (omega (arith, l))

if_le : (b : Bool) (n : ℕ) → if b n 0 ≤ n
if_le true n = omega arith
if_le false n = omega arith

pub pass_below : (first n i : ℕ) → i < to_pass first n → i < n
pass_below first n i l = (if_below (eqb first 0) n i l).1

pub pass_le : (first n : ℕ) → to_pass first n ≤ n
pass_le first n = if_le (eqb first 0) n

pub pass_in_below : (first n w i : ℕ) → i < to_pass_in first n w → (i < n) × (i < w)
pass_in_below first n w i l =
    let h = if_below (eqb first 0 && leb n w) n i l in
    (h.1, omega (arith, h.1, leb-true n w (and_right (eqb first 0) (leb n w) h.0)))

pub pass_in_le : (first n w : ℕ) → to_pass_in first n w ≤ w
pass_in_le first n w = go (eqb first 0) (leb n w) refl
  where
    go : (a b : Bool) → leb n w ≡ b → if (a && b) n 0 ≤ w
    go true true t = leb-true n w t
    go true false t = omega arith
    go false b t = omega arith

pub in_room_below : (n w i : ℕ) → i < in_room n w → (i < n) × (i < w)
in_room_below n w i l = let h = if_below (leb n w) n i l in (h.1, omega (arith, h.1, leb-true n w h.0))

pub in_room_le : (n w : ℕ) → in_room n w ≤ n
in_room_le n w = if_le (leb n w) n

-- 1 isn't given: the chain isn't too long
pub chain_long : (n : ℕ) → chain_refusal n ≡ 0 → n ≤ 16
chain_long n e = omega (arith, ltb-true n 17 (and_right (ltb 0 n) (ltb n 17) (passed (ltb 0 n && ltb n 17) 0 0 e).0))

-- ---- the number found
-- families below 1 are below 2
below_more : (fs : List ℕ) → families_below 1 fs ≡ true → families_below 2 fs ≡ true
unfolding families_below
below_more [] e = refl
below_more (f ∷ fs) e =
    rw (lt-ltb f 2 (omega (arith, ltb-true f 1 (and_left (ltb f 1) (families_below 1 fs) e))), below_more fs (and_right (ltb f 1) (families_below 1 fs) e))

none_below : (k : ℕ) → families_below k [] ≡ true
unfolding families_below
none_below k = refl

-- and each of them is 0
old_at : (fs : List ℕ) (k : ℕ) → families_below 1 fs ≡ true → get_or fs k 0 ≡ 0
unfolding families_below
old_at [] k e = refl
old_at (f ∷ fs) zero e = omega (arith, ltb-true f 1 (and_left (ltb f 1) (families_below 1 fs) e))
old_at (f ∷ fs) (suc k) e = old_at fs k (and_right (ltb f 1) (families_below 1 fs) e)

-- of records that are all of the old family
old_records : (ds : List Device) (f own : ℕ) → families_below 1 (families ds) ≡ true → f ≡ 0 → records_refusal ds f own ≡ first_of (argument_at own 0 ∷ sound_refusal (all_sound ds) ∷ lack_at own 0 ∷ [])
old_records ds f own o z = rw (z, o, below_more (families ds) o)

-- the widths of the first m records, where all of these are
pub old_sound : (ds : List Device) (m : ℕ) → AllBytes (take m ds) → all_old (widths_of no_widths (take m ds)) ≡ true
    → (families_below 1 (families (take m ds)) ≡ true) × (fit (widths_of no_widths (take m ds)) ≡ all_sound (take m ds))
old_sound ds m y e =
    let o : families_below 1 (families (take m ds)) ≡ true = sym (old_of no_widths (take m ds) y) ∙ e in
    (o, fit_old no_widths (take m ds) y o)

-- by a pass over all records, each by its own family
pub records_found : (ds : List Device) (f own : ℕ) → AllBytes (take (length ds) ds)
    → found_by (seen_fit (seen_of no_seen (take (length ds) ds))) (ltb (seen_of no_seen (take (length ds) ds)).families 2) (ltb (seen_of no_seen (take (length ds) ds)).families 1) own f ≡ records_refusal ds f own
records_found ds f own y = rw (seen_fit_lem (take (length ds) ds) y, seen_known (take (length ds) ds), seen_old (take (length ds) ds), take-length ds)

module _ (ds : List Device) (driver own : ℕ) where
  abbrev n : ℕ
  n = length ds

  abbrev first : ℕ
  first = by_arguments n driver

  abbrev family : ℕ
  family = family_at (families ds) driver

  -- what is tested after the chain and the driver
  abbrev later : List ℕ
  later = argument_at own family ∷ sound_refusal (all_sound ds) ∷ family_refusal (families_below 2 (families ds)) ∷ lack_at own family ∷ row_lack_at own (families_below 1 (families ds)) ∷ []

  by_first : if (eqb first 0) (records_refusal ds family own) first ≡ call_refusal ds driver own
  by_first = found_rest (chain_refusal n ∷ driver_refusal n driver ∷ []) later

  -- by the arguments alone
  pub call_first : (first ≡ 0 → ⊥) → first ≡ call_refusal ds driver own
  call_first z = rw (ne_eqb first 0 z) at by_first

  -- by the records, where the arguments give none
  pub call_records : first ≡ 0 → records_refusal ds (get_or ds (driver - 1) power_up).family own ≡ call_refusal ds driver own
  call_records z = rw (← List·getD-map (λ (d : Device). d.family) ds (driver - 1) power_up) (rw z at by_first)

  pub call_there : first ≡ 0 → (1 ≤ driver) × (driver ≤ n)
  call_there z = driver_there n driver (first_zero (driver_refusal n driver) [] (first_zero (chain_refusal n) (driver_refusal n driver ∷ []) z).1).0

  -- by the widths of the records, where all are of the old family
  pub call_old : AllBytes (take (to_pass first n) ds) → all_old (widths_of no_widths (take (to_pass first n) ds)) ≡ true
      → found_old first (fit (widths_of no_widths (take (to_pass first n) ds))) own ≡ call_refusal ds driver own
  call_old y e = go (eqb first 0) refl y e ∙ by_first
    where
      go : (b : Bool) → eqb first 0 ≡ b → AllBytes (take (if b n 0) ds) → all_old (widths_of no_widths (take (if b n 0) ds)) ≡ true
          → if b (first_of (argument_at own 0 ∷ sound_refusal (fit (widths_of no_widths (take (if b n 0) ds))) ∷ lack_at own 0 ∷ [])) first ≡ if b (records_refusal ds family own) first
      go true z y e =
          let s = old_sound ds n y e in
          let o : families_below 1 (families ds) ≡ true = rw (take-length ds) at s.0 in
          rw (s.1, take-length ds) (sym (old_records ds family own o (old_at (families ds) (driver - 1) o)))
      go false z y e = refl

  -- the numbers of its tests are 0
  each : call_refusal ds driver own ≡ 0 → (k : ℕ) → get_or (chain_refusal n ∷ driver_refusal n driver ∷ later) k 0 ≡ 0
  each = each_zero (chain_refusal n ∷ driver_refusal n driver ∷ later)

  pub own_zero : call_refusal ds driver own ≡ 0 → argument_at own family ≡ 0
  own_zero z = each z 2

  pub in_range : call_refusal ds driver own ≡ 0 → (1 ≤ driver) × (driver ≤ n)
  in_range z = driver_there n driver (each z 1)

-- ---- of an access, whose first m records were passed
module _ (ds : List Device) (first w : ℕ) where
  abbrev m : ℕ
  m = to_pass_in first (length ds) w

  abbrev nr : ℕ
  nr = found first (all_sound (take m ds)) (families_below 2 (families (take m ds)))

  -- where these are all of the old family
  pub access_old : AllBytes (take m ds) → all_old (widths_of no_widths (take m ds)) ≡ true → found_old first (fit (widths_of no_widths (take m ds))) 0 ≡ nr
  access_old y e =
      let s = old_sound ds m y e in
      rw (s.1, below_more (families (take m ds)) s.0)

  -- and where one isn't: then all were passed
  pub access_mixed : AllBytes (take m ds) → all_old (widths_of no_widths (take m ds)) ≡ false → records_refusal ds 0 0 ≡ nr
  access_mixed y e = go (eqb first 0) (leb (length ds) w) refl (sym (old_of no_widths (take m ds) y) ∙ e)
    where
      row : (old : Bool) (k : ℕ) → first_of (k ∷ if {A = ℕ} old 0 0 ∷ []) ≡ first_of (k ∷ [])
      row true k = refl
      row false k = refl

      go : (a b : Bool) → eqb first 0 ≡ a → families_below 1 (families (take (if (a && b) (length ds) 0) ds)) ≡ false
          → records_refusal ds 0 0 ≡ if a (first_of (sound_refusal (all_sound (take (if (a && b) (length ds) 0) ds)) ∷ family_refusal (families_below 2 (families (take (if (a && b) (length ds) 0) ds))) ∷ [])) first
      go true true z o = rw (take-length ds) (ap (λ (k : ℕ). if (eqb (sound_refusal (all_sound ds)) 0) k (sound_refusal (all_sound ds))) (row (families_below 1 (families ds)) (family_refusal (families_below 2 (families ds)))))
      go true false z o = absurd (true≢false (sym (none_below 1) ∙ o))
      go false b z o = absurd (true≢false (sym (none_below 1) ∙ o))

-- ---- the number of a call that asks the whole row
pub row_found : (ds : List Device) → call_refusal ds 1 row_own ≡ row_refusal ds
row_found ds = rw (row_argument (family_at (families ds) 1)) (go (length ds))
  where
    known : (a b : Bool) → (b ≡ true → a ≡ true) → ◌≡◌ {A = ℕ} (if (eqb (if a 0 14) 0) (if (eqb (if b 0 14) 0) 0 (if b 0 14)) (if a 0 14)) (if (eqb (if b 0 14) 0) 0 (if b 0 14))
    known true b i = refl
    known false true i = absurd (true≢false (sym (i refl)))
    known false false i = refl

    go : (n : ℕ) → first_of (chain_refusal n ∷ driver_refusal n 1 ∷ sound_refusal (all_sound ds) ∷ family_refusal (families_below 2 (families ds)) ∷ row_lack_at row_own (families_below 1 (families ds)) ∷ []) ≡ first_of (chain_refusal n ∷ sound_refusal (all_sound ds) ∷ family_refusal (families_below 1 (families ds)) ∷ [])
    go zero = refl
    go (suc n) = rw (le-leb 1 (suc n) (omega arith)) (ap (λ (k : ℕ). if (eqb (if (ltb (suc n) 17) 0 1) 0) (if (eqb (sound_refusal (all_sound ds)) 0) k (sound_refusal (all_sound ds))) (if (ltb (suc n) 17) 0 1)) (known (families_below 2 (families ds)) (families_below 1 (families ds)) (below_more (families ds))))

-- ---- the outcome
module _ (ds : List Device) (j : ℕ) (st : Step) where
  pub give_number : number (give j st) ds ≡ call_refusal ds j (step_own st)
  unfolding number
  give_number = rw (step_argument, step_lack, step_row)

  pub give_served : call_refusal ds j (step_own st) ≡ 0
      → outcome (give j st) ds ≡ record { number = call_refusal ds j (step_own st); records = set ds (j - 1) (stepped st (get_or ds (j - 1) power_up)); back = [] }
  unfolding after reply
  give_served z = rw (give_number, z)

  pub give_refused : (call_refusal ds j (step_own st) ≡ 0 → ⊥)
      → outcome (give j st) ds ≡ record { number = call_refusal ds j (step_own st); records = ds; back = [] }
  unfolding after reply
  give_refused z = rw (give_number, ne_eqb (call_refusal ds j (step_own st)) 0 z)

module _ (ds : List Device) (j : ℕ) (q : Question) where
  pub ask_number : number (ask j q) ds ≡ call_refusal ds j (question_own q)
  unfolding number
  ask_number = rw (question_argument, question_lack, question_row)

  pub question_zero : call_refusal ds j (question_own q) ≡ 0 → question_refusal q ≡ 0
  question_zero z = sym (question_argument (family_at (families ds) j) q) ∙ own_zero ds j (question_own q) z

  pub ask_served : call_refusal ds j (question_own q) ≡ 0
      → outcome (ask j q) ds ≡ record { number = 0; records = ds; back = answer_to q (get_or ds (j - 1) power_up) }
  unfolding after reply
  ask_served z = rw (ask_number, z)

  pub ask_refused : (call_refusal ds j (question_own q) ≡ 0 → ⊥)
      → outcome (ask j q) ds ≡ record { number = call_refusal ds j (question_own q); records = ds; back = refused_to q }
  unfolding after reply
  ask_refused z = rw (ask_number, ne_eqb (call_refusal ds j (question_own q)) 0 z)
