-- The planner's calls that are served.
-- Assumes nothing.
use Rattle.ground.proofs.Names.{ℕ, ◌*◌, arith, Bool, true, false, not, ◌&&◌, List, [], ◌∷◌, ◌++◌, ◌≡◌, refl, sym, ◌∙◌, ap, eqb, ltb, length, get_or, drop, eqb-true, ltb-true, passed, and_left, if}
use mathlib.Core.Logic.{◌↔◌}
use Rattle.device.specs.Families.{families}
use Rattle.device.specs.declared.Device.{Device}
use Rattle.plans.specs.Lists.{record_at, AcceptedList, Given}
use Rattle.plans.specs.Check.{accepted_list}
use Rattle.plans.specs.Plan.{accesses, planned}
use Rattle.plans.specs.Shortest.{ShortestList}
use Rattle.plans.proofs.Lists.{shortest}
use Rattle.plans.proofs.Check.{checked}
use Rattle.calls.specs.Calls.{ChainQuestion, plan, plan_check, ask_chain}
use Rattle.calls.specs.CallRefusals.{families_below, contents_refusal}
use Rattle.calls.specs.Outcome.{number, reply}
use Rattle.calls.specs.Planned.{Typed, Planned}
use Rattle.calls.proofs.Accepted.{number_says, reply_zero}
use Rattle.calls.proofs.Records.{sound_at}
use Rattle.calls.proofs.Old.{old_at, sound_old}

not_not : (b : Bool) → not b ≡ false → b ≡ true
not_not true e = refl
not_not false e = sym e

-- what a served call is given
given : (ds : List Device) (wanted : List ℕ) (q : ChainQuestion) → Typed ds wanted
    → (contents_refusal (length ds) (ask_chain q) ≡ 0 → length wanted ≡ 32 * length ds) → number (ask_chain q) ds ≡ 0 → Given ds wanted
given ds wanted q t sized z =
    let a = number_says (ask_chain q) ds z in
    let old = not_not (families_below 1 (families ds)) a.has in
    let c = (passed (ltb 0 (length ds) && ltb (length ds) 17) 0 0 a.some).0 in
    record {
      some = ltb-true 0 (length ds) (and_left (ltb 0 (length ds)) (ltb (length ds) 17) c);
      sound = λ i h. sound_old (record_at ds i) (old_at ds old i) (sound_at ds a.all_sound i);
      sized = sized a.contents;
      planes = t.planes;
      bytes = t.bytes;
    }

by_length : (n : ℕ) (wanted : List ℕ) → if {A = ℕ} (eqb (length wanted) (32 * n)) 0 12 ≡ 0 → length wanted ≡ 32 * n
by_length n wanted e = eqb-true (length wanted) (32 * n) (passed (eqb (length wanted) (32 * n)) 0 11 e).0

list_given : (ds : List Device) (wanted room : List ℕ) → Typed ds wanted → number (ask_chain (plan wanted room)) ds ≡ 0
    → ShortestList ds wanted × (reply (ask_chain (plan wanted room)) ds ≡ accesses ds wanted ∷ planned ds wanted ++ drop (length (planned ds wanted)) room)
list_given ds wanted room t z =
    let s = shortest ds wanted (given ds wanted (plan wanted room) t (by_length (length ds) wanted) z) in
    (s, rw (reply_zero (ask_chain (plan wanted room)) ds z, s.counted))

-- an answer of 1
one_says : (b : Bool) → ◌≡◌ {A = List ℕ} (if b 1 0 ∷ []) (1 ∷ []) → b ≡ true
one_says true e = refl
one_says false e = let h : ◌≡◌ {A = ℕ} 0 1 = ap (λ (l : List ℕ). get_or l 0 0) e in absurd (omega (arith, h))

checks : (ds : List Device) (wanted list : List ℕ) → Typed ds wanted → number (ask_chain (plan_check wanted list)) ds ≡ 0
    → (reply (ask_chain (plan_check wanted list)) ds ≡ 1 ∷ []) ↔ AcceptedList ds wanted list
checks ds wanted list t z =
    let c = checked ds wanted list (given ds wanted (plan_check wanted list) t (by_length (length ds) wanted) z) in
    let r = reply_zero (ask_chain (plan_check wanted list)) ds z in
    ((λ e. c.0 (one_says (accepted_list ds wanted list) (sym r ∙ e))), λ a. rw (r, c.1 a))

pub planned_calls : Planned
planned_calls = record { shortest = list_given; checked = checks }
