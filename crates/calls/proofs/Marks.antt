-- The proof of `specs/AnswerMark.antt`'s theorem.
-- Assumes nothing.
use Rattle.ground.proofs.Names.{ℕ, ◌-◌, ◌≤◌, true, false, not, List, [], ◌∷◌, ◌++◌, ◌≡◌, refl, sym, ap, ◌∙◌, length, get_or, List·getD-map, eqb-false, ne_eqb, not-true, and_left, and_right, if, bit}
use Rattle.device.specs.PowerUp.{power_up}
use Rattle.device.specs.declared.Device.{Device}
use Rattle.device.proofs.Families.{pinned_mark, both_families}
use Rattle.calls.specs.Calls.{Step, scan, levels, clocks, Call, access, give, ask, ask_chain}
use Rattle.calls.specs.Served.{record_of, stepped}
use Rattle.calls.specs.Outcome.{number, after}
use Rattle.calls.specs.NextAccess.{word_taken}
use Rattle.calls.specs.CallLists.{after_all}
use Rattle.calls.specs.AnswerMark.{marks, decides, none_decides, AnswerMark}
use Rattle.calls.proofs.Accepted.{after_zero, after_same}
use Rattle.calls.proofs.Records.{given_same, length_after_all}
use Rattle.calls.proofs.Answered.{taken_at}

-- no step touches the mark
pub same_mark : (s : Step) (x : Device) → (stepped s x).answer_mark ≡ x.answer_mark
same_mark (scan a b c d) x = refl
same_mark (levels l) x = pinned_mark x l
same_mark (clocks k) x = refl

by_access : (ds : List Device) (c : ℕ) (sent room : List ℕ) (i : ℕ) → 1 ≤ i → i ≤ length ds
    → number (access c sent room) ds ≡ 0
    → (record_of (after (access c sent room) ds) i).answer_mark ≡ if (bit 15 (word_taken ds c sent i)) 1 0
by_access ds c sent room i h g z =
    ap (λ (xs : List Device). (record_of xs i).answer_mark) (after_zero (access c sent room) ds z)
    ∙ ap (λ (d : Device). d.answer_mark) (taken_at ds i h g c sent room)
    ∙ both_families.word.marked (record_of ds i) (word_taken ds c sent i)

by_refused : (ds : List Device) (q : Call) → (number q ds ≡ 0 → ⊥) → marks (after q ds) ≡ marks ds
unfolding after
by_refused ds q z = rw (ne_eqb (number q ds) 0 z)

by_other : (ds : List Device) (q : Call) → decides q ds ≡ false → marks (after q ds) ≡ marks ds
by_other ds (access c sent room) e = by_refused ds (access c sent room) (eqb-false _ 0 e)
by_other ds (give j s) e = given_same (λ d. d.answer_mark) same_mark j s ds
by_other ds (ask j q) e = ap marks (after_same (ask j q) ds refl)
by_other ds (ask_chain q) e = ap marks (after_same (ask_chain q) ds refl)

by_list : (ds : List Device) (qs : List Call) → none_decides qs ds ≡ true → marks (after_all qs ds) ≡ marks ds
unfolding after_all none_decides
by_list ds [] e = refl
by_list ds (q ∷ qs) e =
    by_list (after q ds) qs (and_right (not (decides q ds)) (none_decides qs (after q ds)) e)
    ∙ by_other ds q (not-true (decides q ds) (and_left (not (decides q ds)) (none_decides qs (after q ds)) e))

-- lists one after the other
all_append : (qs rs : List Call) (ds : List Device) → after_all (qs ++ rs) ds ≡ after_all rs (after_all qs ds)
unfolding after_all
all_append [] rs ds = refl
all_append (q ∷ qs) rs ds = all_append qs rs (after q ds)

-- a driver's mark by those of the row
mark_at : (ds : List Device) (i : ℕ) → (record_of ds i).answer_mark ≡ get_or (marks ds) (i - 1) power_up.answer_mark
mark_at ds i = sym (List·getD-map (λ (d : Device). d.answer_mark) ds (i - 1) power_up)

last_access : (ds : List Device) (qs rs : List Call) (c : ℕ) (sent room : List ℕ) (i : ℕ) → 1 ≤ i → i ≤ length ds
    → number (access c sent room) (after_all qs ds) ≡ 0
    → none_decides rs (after (access c sent room) (after_all qs ds)) ≡ true
    → (record_of (after_all (qs ++ access c sent room ∷ rs) ds) i).answer_mark ≡ if (bit 15 (word_taken (after_all qs ds) c sent i)) 1 0
unfolding after_all
last_access ds qs rs c sent room i h g z e =
    let es = after_all qs ds in
    let left = after (access c sent room) es in
    ap (λ (xs : List Device). (record_of xs i).answer_mark) (all_append qs (access c sent room ∷ rs) ds)
    ∙ mark_at (after_all rs left) i
    ∙ ap (λ (ms : List ℕ). get_or ms (i - 1) power_up.answer_mark) (by_list left rs e)
    ∙ sym (mark_at left i)
    ∙ by_access es c sent room i h (rw (length_after_all qs ds) g) z

pub answer_mark_lem : AnswerMark
answer_mark_lem =
    record {
      by_access = by_access;
      by_step = λ ds j s. given_same (λ d. d.answer_mark) same_mark j s ds;
      by_question = λ ds j q. ap marks (after_same (ask j q) ds refl);
      by_chain_question = λ ds q. ap marks (after_same (ask_chain q) ds refl);
      by_refused = by_refused;
      by_list = by_list;
      last_access = last_access;
    }
