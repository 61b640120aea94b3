-- The check accepts exactly the accepted lists.
-- Assumes nothing.
use Rattle.ground.proofs.Names.{ℕ, zero, suc, ◌%◌, ◌<◌, arith, ℕ_discrete, Bool, true, ◌&&◌, List, ◌≡◌, refl, sym, ◌∙◌, eqb, length, get_or, ext_get_or, eqb-true, eq-eqb, and_left, and_right}
use Rattle.digits.specs.declared.Planes.{Planes}
use Rattle.device.specs.Table15.{after_words}
use Rattle.device.specs.declared.Device.{Device}
use Rattle.plans.specs.Words.{allowed, every, Accepted, Sized}
use Rattle.plans.specs.Lists.{record_at, wanted_at, words_at, AcceptedList}
use Rattle.plans.specs.Check.{below, same, accepted_words, accepted_list, Checked}
use Rattle.plans.proofs.Act.{after_planes}
use Rattle.plans.proofs.Potential.{drawn_sized}
use Rattle.plans.proofs.Lists.{wanted_at_lem}

-- a test that holds below n holds at each number below n, and conversely
below_at : (n : ℕ) (f : ℕ → Bool) → below n f ≡ true → (k : ℕ) → k < n → f k ≡ true
unfolding below
below_at zero f t k h = absurd (omega arith)
below_at (suc n) f t k h = go (below_at n f (and_left (below n f) (f n) t) k) (ℕ_discrete k n)
  where
    go : (k < n → f k ≡ true) → Dec (k ≡ n) → f k ≡ true
    go earlier (yes e) = rw e (and_right (below n f) (f n) t)
    go earlier (no e) = earlier (omega arith)

below_all : (n : ℕ) (f : ℕ → Bool) → ((k : ℕ) → k < n → f k ≡ true) → below n f ≡ true
unfolding below
below_all zero f h = refl
below_all (suc n) f h = rw (below_all n f (λ k l. h k (omega arith)), h n (omega arith))

-- planes of sixteen digits that are the same
same_says : (p q : Planes) → Sized p → Sized q → same p q ≡ true → p ≡ q
unfolding same
same_says p q zp zq t = λ k. record { p0 = first k; p1 = second k }
  where
    at : (k : ℕ) → k < 16 → (eqb (get_or p.p0 k 0) (get_or q.p0 k 0) && eqb (get_or p.p1 k 0) (get_or q.p1 k 0)) ≡ true
    at = below_at 16 _ t

    first : p.p0 ≡ q.p0
    first = ext_get_or 0 p.p0 q.p0 (zp.first ∙ sym zq.first) (λ k h. eqb-true _ _ (and_left _ _ (at k (rw zp.first at h))))

    second : p.p1 ≡ q.p1
    second =
        ext_get_or 0 p.p1 q.p1 (zp.second ∙ sym zq.second)
        (λ k h. eqb-true _ _ (and_right (eqb (get_or p.p0 k 0) (get_or q.p0 k 0)) _ (at k (rw zp.second at h))))

same_refl : (q : Planes) → same q q ≡ true
unfolding same
same_refl q = below_all 16 _ (λ k h. rw (eq-eqb (get_or q.p0 k 0) (get_or q.p0 k 0) refl, eq-eqb (get_or q.p1 k 0) (get_or q.p1 k 0) refl))

-- one driver
words_say : (d : Device) (q : Planes) → Sized d.registers.planes → Sized q → (ws : List ℕ) → accepted_words d q ws ≡ true → Accepted d q ws
unfolding accepted_words
words_say d q z zq ws t =
    let a = and_left (every (allowed d) ws) _ t in
    let p = (after_words d ws).registers.planes in
    let zp : Sized p = rw (after_planes ws d a) (drawn_sized ws d.registers.planes z) in
    record { alone = a; ends = same_says p q zp zq (and_right (every (allowed d) ws) _ t) }

words_test : (d : Device) (q : Planes) (ws : List ℕ) → Accepted d q ws → accepted_words d q ws ≡ true
unfolding accepted_words
words_test d q ws h = rw (h.alone, h.ends) (same_refl q)

-- a chain: whole accesses, and each driver's words
whole_said : (ds : List Device) (wanted list : List ℕ) → accepted_list ds wanted list ≡ true → length list % length ds ≡ 0
unfolding accepted_list
whole_said ds wanted list t = eqb-true (length list % length ds) 0 (and_left _ _ t)

pub checked : Checked
unfolding accepted_list
checked ds wanted list g = (says, test)
  where
    says : accepted_list ds wanted list ≡ true → AcceptedList ds wanted list
    says t =
        record {
          whole = whole_said ds wanted list t;
          each =
              λ i h.
              words_say (record_at ds i) (wanted_at wanted i) (g.planes i h) (wanted_at_lem ds wanted g i h).sized (words_at (length ds) list i)
              (below_at (length ds) _ (and_right (eqb (length list % length ds) 0) _ t) i h);
        }

    test : AcceptedList ds wanted list → accepted_list ds wanted list ≡ true
    test a = rw a.whole (below_all (length ds) _ (λ i h. words_test (record_at ds i) (wanted_at wanted i) (words_at (length ds) list i) (a.each i h)))
