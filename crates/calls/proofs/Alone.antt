-- The proof of `specs/Isolation.antt`'s theorem: one law for each kind of call, then induction on the list.
-- Assumes nothing.
use Rattle.ground.proofs.Names.{ℕ, ◌-◌, ◌*◌, ◌≤◌, arith, Bool, true, false, List, [], ◌∷◌, map, ◌≡◌, refl, ap, ◌∙◌, eqb, length, get_or-set_same, get_or-set_other, eqb-true, eqb-false, if}
use Rattle.refusals.specs.Refusals.{bytes_for}
use Rattle.device.specs.PowerUp.{power_up}
use Rattle.device.specs.Families.{takes, families}
use Rattle.device.specs.declared.Device.{Device}
use Rattle.calls.specs.Calls.{Step, Question, ChainQuestion, Call, access, give, ask, ask_chain}
use Rattle.calls.specs.CallRefusals.{all_sound, shortest_refusal}
use Rattle.calls.specs.Served.{record_of, stepped, answer_to, served, given_back}
use Rattle.calls.specs.Outcome.{number, after, reply}
use Rattle.calls.specs.CallLists.{after_all, numbers, replies}
use Rattle.calls.specs.Isolation.{refusal_alone, accepted, lone_step, lone_reply, answered_by, lone_after, lone, lone_replies, all_answered_by, Full, AllFull, own_number, own_numbers, Isolation}
use Rattle.calls.proofs.Accepted.{zero_says, driver_there, sent_enough, after_same, number_alone, after_by, reply_by}
use Rattle.calls.proofs.Records.{length_after, families_after, families_after_all, length_after_all}
use Rattle.calls.proofs.Sound.{after_sound, all_sound_lem}
use Rattle.calls.proofs.Answered.{taken_at, own_taken, own_answered}

-- what a served call leaves at driver i's place, and gives back there
record Own (n i : ℕ) (q : Call) (ds : List Device) : Type 0 where
  left : record_of (served q ds) i ≡ lone_step n i q (record_of ds i)
  back : answered_by n i q (given_back q ds) ≡ lone_reply i q (record_of ds i)

module _ (i : ℕ) (ds : List Device) (h : 1 ≤ i) (g : i ≤ length ds) where
  -- an access of 16 clocks for each driver
  access_own : (c : ℕ) (sent room : List ℕ) → c ≡ 16 * length ds → bytes_for c ≤ length sent → Own (length ds) i (access c sent room) ds
  access_own c sent room e f =
      record {
        left = taken_at ds i h g c sent room ∙ ap (takes (record_of ds i)) (own_taken ds i h g c sent e f);
        back = ap (λ (w : ℕ). (w ∷ []) ∷ []) (own_answered ds i h g c sent room (omega arith) f);
      }

  -- what driver j is given
  give_own : (j : ℕ) (s : Step) → 1 ≤ j → Own (length ds) i (give j s) ds
  give_own j s h' = record { left = go (eqb j i) refl; back = refl }
    where
      go : (b : Bool) → eqb j i ≡ b → record_of (served (give j s) ds) i ≡ if b (stepped s (record_of ds i)) (record_of ds i)
      go true e = let p : j ≡ i = eqb-true j i e in rw p (get_or-set_same ds (i - 1) _ power_up (omega arith))
      go false e = get_or-set_other ds (j - 1) (i - 1) _ power_up (λ p. eqb-false j i e (omega arith))

  -- what driver j is asked
  ask_own : (j : ℕ) (q : Question) → Own (length ds) i (ask j q) ds
  ask_own j q = record { left = refl; back = go (eqb j i) refl }
    where
      go : (b : Bool) → eqb j i ≡ b → if b (answer_to q (record_of ds j) ∷ []) [] ≡ if b (answer_to q (record_of ds i) ∷ []) []
      go true e = let p : j ≡ i = eqb-true j i e in rw p
      go false e = refl

  -- what the chain is asked
  chain_own : (q : ChainQuestion) → Own (length ds) i (ask_chain q) ds
  chain_own q = record { left = refl; back = refl }

  -- any accepted call
  own : (fs : List ℕ) (q : Call) → Full (length ds) fs q → accepted (length ds) fs q ≡ true → Own (length ds) i q ds
  own fs (access c sent room) f t =
      let a = zero_says (length ds) fs true 0 (access c sent room) (eqb-true _ 0 t) in
      access_own c sent room (f t) (sent_enough c (length sent) (length room) a.bytes)
  own fs (give j s) f t =
      let a = zero_says (length ds) fs true 0 (give j s) (eqb-true _ 0 t) in
      give_own j s (driver_there (length ds) j a.named).0
  own fs (ask j q) f t = ask_own j q
  own fs (ask_chain q) f t = chain_own q

-- what one call, served or refused, leaves and gives back
record Stepped (n : ℕ) (fs : List ℕ) (i : ℕ) (q : Call) (ds : List Device) : Type 0 where
  left : record_of (after q ds) i ≡ lone_after n fs i q (record_of ds i)
  back : if (accepted n fs q) (answered_by n i q (reply q ds)) [] ≡ if (accepted n fs q) (lone_reply i q (record_of ds i)) []

-- one call on sound records, whose number its arguments alone decide
decided_own : (i : ℕ) (q : Call) (ds : List Device) → all_sound ds ≡ true → shortest_refusal ds q ≡ 0 → Full (length ds) (families ds) q → 1 ≤ i → i ≤ length ds
    → Stepped (length ds) (families ds) i q ds
decided_own i q ds s z f h g = go (accepted (length ds) (families ds) q) refl
  where
    go : (b : Bool) → accepted (length ds) (families ds) q ≡ b → Stepped (length ds) (families ds) i q ds
    go true t =
        let o = own i ds h g (families ds) q f t in
        record { left = rw (after_by (length ds) (families ds) q ds refl refl s z, t) o.left; back = rw (reply_by (length ds) (families ds) q ds refl refl s z, t) o.back }
    go false t = record { left = rw (after_by (length ds) (families ds) q ds refl refl s z, t); back = rw t }

-- any call; what the chain is asked is nothing to a driver
call_own : (i : ℕ) (q : Call) (ds : List Device) → all_sound ds ≡ true → Full (length ds) (families ds) q → 1 ≤ i → i ≤ length ds → Stepped (length ds) (families ds) i q ds
call_own i (access c sent room) ds s f h g = decided_own i (access c sent room) ds s refl f h g
call_own i (give j x) ds s f h g = decided_own i (give j x) ds s refl f h g
call_own i (ask j x) ds s f h g = decided_own i (ask j x) ds s refl f h g
call_own i (ask_chain x) ds s f h g =
    let same = elim (accepted (length ds) (families ds) (ask_chain x)) as (λ b. record_of ds i ≡ if b (record_of ds i) (record_of ds i)) [ true ↦ refl | false ↦ refl ] in
    record { left = rw (after_same (ask_chain x) ds refl) same; back = refl }

call_number : (n : ℕ) (fs : List ℕ) (q : Call) (ds : List Device) → length ds ≡ n → families ds ≡ fs → all_sound ds ≡ true → own_number q (number q ds) ≡ own_number q (refusal_alone n fs q)
call_number n fs (access c sent room) ds l k s = ap (λ (k : ℕ). k ∷ []) (number_alone n fs (access c sent room) ds l k s refl)
call_number n fs (give j x) ds l k s = ap (λ (k : ℕ). k ∷ []) (number_alone n fs (give j x) ds l k s refl)
call_number n fs (ask j x) ds l k s = ap (λ (k : ℕ). k ∷ []) (number_alone n fs (ask j x) ds l k s refl)
call_number n fs (ask_chain x) ds l k s = refl

-- the theorem's first three parts, at each length
record Told (n : ℕ) (fs : List ℕ) (i : ℕ) (qs : List Call) (ds : List Device) : Type 0 where
  numbered : own_numbers qs (numbers qs ds) ≡ own_numbers qs (map (refusal_alone n fs) qs)
  left : record_of (after_all qs ds) i ≡ lone n fs i qs (record_of ds i)
  back : all_answered_by n fs i qs (replies qs ds) ≡ lone_replies n fs i qs (record_of ds i)

-- by induction on the list
told : (n : ℕ) (fs : List ℕ) (i : ℕ) → 1 ≤ i → i ≤ n → (qs : List Call) (ds : List Device) → length ds ≡ n → families ds ≡ fs → all_sound ds ≡ true → AllFull n fs qs → Told n fs i qs ds
unfolding after_all numbers replies lone lone_replies all_answered_by own_numbers AllFull
told n fs i h g [] ds l k s f = record { numbered = refl; left = refl; back = refl }
told n fs i h g (q ∷ qs) ds l k s f =
    let t : Stepped n fs i q ds = rw (l, k) at (call_own i q ds s (rw (l, k) f.0) h (rw l g)) in
    let r = told n fs i h g qs (after q ds) (length_after q ds ∙ l) (families_after q ds ∙ k) (after_sound q ds s) f.1 in
    record {
      numbered = rw (call_number n fs q ds l k s, r.numbered);
      left = r.left ∙ ap (lone n fs i qs) t.left;
      back = rw (t.back, r.back, t.left);
    }

-- the outputs are what the record, now the lone driver's, answers
pub isolated : Isolation
isolated qs ds s f i h g =
    let t = told (length ds) (families ds) i h g qs ds refl refl s f in
    record {
      same_numbers = t.numbered;
      same_families = families_after_all qs ds;
      same_record = t.left;
      same_answers = t.back;
      same_outputs = λ q a.
          reply_by (length ds) (families ds) (ask i q) (after_all qs ds) (length_after_all qs ds) (families_after_all qs ds) (all_sound_lem qs ds s) refl ∙ rw (a, t.left);
    }
