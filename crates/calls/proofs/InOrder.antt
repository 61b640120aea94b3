-- The order of the numbers: each row of the table gives its own number or 0, and the rows are tested in the order of their places.
-- Assumes nothing.
use Rattle.ground.proofs.Names.{ℕ, zero, suc, ◌*◌, ◌≤◌, arith, Bool, true, false, ◌&&◌, List, [], ◌∷◌, ◌≡◌, refl, eqb, leb, ltb, length, get_or, eqb-true, eqb-false, leb-true, if, and_left, and_right}
use Rattle.refusals.specs.Refusals.{bytes_for, first_of}
use Rattle.device.specs.Families.{families}
use Rattle.device.specs.declared.Device.{Device}
use Rattle.plans.specs.Plan.{accesses}
use Rattle.calls.specs.Calls.{Step, scan, levels, clocks, Question, plane, plane_shown, segments, brightness, shown, interrupt, answer_mark, look_back, ports, plan, plan_check, Call, access, give, ask, ask_chain}
use Rattle.calls.specs.CallRefusals.{named_refusal, bytes_refusal, family_at, step_refusal, question_refusal, argument_refusal, families_below, lacks, contents_refusal, shortest_refusal, all_sound}
use Rattle.calls.specs.Outcome.{number}
use Rattle.calls.specs.Order.{applying, place, Order}

-- a number within two places, where it isn't 0
abbrev Within : ℕ → ℕ → ℕ → Type 0
Within p b k = (k ≡ 0 → ⊥) → (p ≤ place k) × (place k ≤ b)

-- numbers, each within the places from the last one's bound to its own
abbrev Rising : ℕ → List ℕ → List ℕ → Type 0
Rising p [] bs = Unit {0}
Rising p (k ∷ ks) [] = ⊥
Rising p (k ∷ ks) (b ∷ bs) = (leb p b ≡ true) × (leb b 26 ≡ true) × Within p b k × Rising b ks bs

-- none is below the first place
from : (p : ℕ) (ks bs : List ℕ) → Rising p ks bs → (i : ℕ) → (get_or ks i 0 ≡ 0 → ⊥) → p ≤ place (get_or ks i 0)
from p [] bs r i h = absurd (h refl)
from p (k ∷ ks) [] r i h = absurd r
from p (k ∷ ks) (b ∷ bs) r zero h = (r.2 h).0
from p (k ∷ ks) (b ∷ bs) r (suc i) h = omega (arith, leb-true p b r.0, from b ks bs r.3 i h)

-- the first that isn't 0 has the lowest place of all
first : (p : ℕ) (ks bs : List ℕ) → Rising p ks bs → (i : ℕ) → (get_or ks i 0 ≡ 0 → ⊥)
    → (first_of ks ≡ 0 → ⊥) × (place (first_of ks) ≤ place (get_or ks i 0))
first p [] bs r i h = absurd (h refl)
first p (k ∷ ks) [] r i h = absurd r
first p (k ∷ ks) (b ∷ bs) r i h = go (eqb k 0) refl (first b ks bs r.3) i h
  where
    go : (z : Bool) → eqb k 0 ≡ z → ((i : ℕ) → (get_or ks i 0 ≡ 0 → ⊥) → (first_of ks ≡ 0 → ⊥) × (place (first_of ks) ≤ place (get_or ks i 0)))
        → (i : ℕ) → (get_or (k ∷ ks) i 0 ≡ 0 → ⊥) → (if z (first_of ks) k ≡ 0 → ⊥) × (place (if z (first_of ks) k) ≤ place (get_or (k ∷ ks) i 0))
    go true e later zero h = absurd (h (eqb-true k 0 e))
    go true e later (suc i) h = later i h
    go false e later zero h = (h, omega arith)
    go false e later (suc i) h = (eqb-false k 0 e, omega (arith, (r.2 (eqb-false k 0 e)).1, from b ks bs r.3 i h))

-- it is one of them, or 0
one_of : (ks : List ℕ) → (i : ℕ) × (first_of ks ≡ get_or ks i 0)
one_of [] = (0, refl)
one_of (k ∷ ks) = go (eqb k 0) (one_of ks)
  where
    go : (z : Bool) → (i : ℕ) × (first_of ks ≡ get_or ks i 0) → (i : ℕ) × (if z (first_of ks) k ≡ get_or (k ∷ ks) i 0)
    go true later = (suc later.0, later.1)
    go false later = (0, refl)

-- and none is above 14
place_small : (k : ℕ) → place k ≤ 26 → k ≤ 14
place_small k = go (eqb k 14) refl
  where
    go : (z : Bool) → eqb k 14 ≡ z → if z 23 (2 * k) ≤ 26 → k ≤ 14
    go true e h = omega (arith, eqb-true k 14 e)
    go false e h = omega arith

small : (p : ℕ) (ks bs : List ℕ) → Rising p ks bs → (i : ℕ) → get_or ks i 0 ≤ 14
small p [] bs r i = omega arith
small p (k ∷ ks) [] r i = absurd r
small p (k ∷ ks) (b ∷ bs) r (suc i) = small b ks bs r.3 i
small p (k ∷ ks) (b ∷ bs) r zero = go (eqb k 0) refl
  where
    go : (z : Bool) → eqb k 0 ≡ z → k ≤ 14
    go true e = omega (arith, eqb-true k 0 e)
    go false e = place_small k (omega (arith, leb-true b 26 r.1, (r.2 (eqb-false k 0 e)).1))

-- 0, and a number that is given unless a test holds, or where it holds
none : {p b : ℕ} → Within p b 0
none h = absurd (h refl)

given_by : {p b : ℕ} (k : ℕ) → (leb p (place k) && leb (place k) b) ≡ true → (p ≤ place k) × (place k ≤ b)
given_by {p} {b} k e = (leb-true p (place k) (and_left (leb p (place k)) (leb (place k) b) e), leb-true (place k) b (and_right (leb p (place k)) (leb (place k) b) e))

unless : (t : Bool) {p b : ℕ} (k : ℕ) → (leb p (place k) && leb (place k) b) ≡ true → Within p b (if t 0 k)
unless true k e = none
unless false k e = λ h. given_by k e

when : (t : Bool) {p b : ℕ} (k : ℕ) → (leb p (place k) && leb (place k) b) ≡ true → Within p b (if t k 0)
when true k e = λ h. given_by k e
when false k e = none

named : (n : ℕ) (q : Call) → Within 2 4 (named_refusal n q)
named n (access c sent room) = none
named n (give j s) = unless (ltb 0 j && leb j n) 2 refl
named n (ask j q) = unless (ltb 0 j && leb j n) 2 refl
named n (ask_chain q) = none

sizes : (x y z : Bool) → Within 4 10 (first_of (if x 3 0 ∷ if y 4 0 ∷ if z 5 0 ∷ []))
sizes true y z = λ h. given_by 3 refl
sizes false true z = λ h. given_by 4 refl
sizes false false true = λ h. given_by 5 refl
sizes false false false = none

bytes : (q : Call) → Within 4 10 (bytes_refusal q)
bytes (access c sent room) = sizes (ltb 4096 c) (ltb (length sent) (bytes_for c)) (ltb (length room) (bytes_for c))
bytes (give j s) = none
bytes (ask j q) = none
bytes (ask_chain q) = none

six : (f : ℕ) (s : Step) → Within 10 12 (step_refusal f s)
six f (scan a b c d) = none
six f (levels l) = go (eqb f 0) (eqb f 1)
  where
    go : (x y : Bool) → Within 10 12 (if x (if (ltb 31 l) 6 0) (if y (if (ltb 268435455 l) 6 0) 0))
    go true y = when (ltb 31 l) 6 refl
    go false true = when (ltb 268435455 l) 6 refl
    go false false = none
six f (clocks k) = none

asked : (q : Question) → Within 10 12 (question_refusal q)
asked (plane p0 p1 first last) = unless (eqb (length p0) 16 && eqb (length p1) 16 && ltb last 16 && leb first last) 6 refl
asked (plane_shown p0 p1 first last) = unless (eqb (length p0) 16 && eqb (length p1) 16 && ltb last 16 && leb first last) 6 refl
asked (segments d font14 font16) = unless (ltb d 8 && eqb (length font14) 128 && eqb (length font16) 128) 6 refl
asked (brightness i) = unless (ltb i 16) 6 refl
asked shown = none
asked interrupt = none
asked answer_mark = none
asked (look_back p i ws) = unless (ltb p 2 && ltb i 16) 6 refl
asked ports = none

argument : (fs : List ℕ) (q : Call) → Within 10 12 (argument_refusal fs q)
argument fs (access c sent room) = none
argument fs (give j s) = six (family_at fs j) s
argument fs (ask j q) = asked q
argument fs (ask_chain q) = none

contents : (n : ℕ) (q : Call) → Within 23 24 (contents_refusal n q)
contents n (access c sent room) = none
contents n (give j s) = none
contents n (ask j q) = none
contents n (ask_chain (plan wanted room)) = unless (eqb (length wanted) (32 * n)) 12 refl
contents n (ask_chain (plan_check wanted list)) = unless (eqb (length wanted) (32 * n)) 12 refl

shortest : (ds : List Device) (q : Call) → Within 24 26 (shortest_refusal ds q)
shortest ds (access c sent room) = none
shortest ds (give j s) = none
shortest ds (ask j q) = none
shortest ds (ask_chain (plan wanted room)) = when (ltb (length room) (accesses ds wanted * length ds)) 13 refl
shortest ds (ask_chain (plan_check wanted list)) = none

-- the rows of the table are in order
abbrev bounds : List ℕ
bounds = 2 ∷ 4 ∷ 10 ∷ 12 ∷ 14 ∷ 23 ∷ 23 ∷ 24 ∷ 26 ∷ []

rising : (q : Call) (ds : List Device) → Rising 0 (applying q ds) bounds
rising q ds =
    let fs = families ds in (
      refl,
      refl,
      unless (ltb 0 (length ds) && ltb (length ds) 17) 1 refl,
      (
        refl,
        refl,
        named (length ds) q,
        (
          refl,
          refl,
          bytes q,
          (
            refl,
            refl,
            argument fs q,
            (
              refl,
              refl,
              unless (all_sound ds) 7 refl,
              (
                refl,
                refl,
                unless (families_below 2 fs) 14 refl,
                (
                  refl,
                  refl,
                  when (lacks fs q) 14 refl,
                  (
                    refl,
                    refl,
                    contents (length ds) q,
                    (refl, refl, shortest ds q, tt),
                  ),
                ),
              ),
            ),
          ),
        ),
      ),
    )

lowest : (q : Call) (ds : List Device) (i : ℕ) → (get_or (applying q ds) i 0 ≡ 0 → ⊥)
    → (number q ds ≡ 0 → ⊥) × (place (number q ds) ≤ place (get_or (applying q ds) i 0))
unfolding number
lowest q ds = first 0 (applying q ds) bounds (rising q ds)

given : (q : Call) (ds : List Device) → (i : ℕ) × (number q ds ≡ get_or (applying q ds) i 0)
unfolding number
given q ds = one_of (applying q ds)

most : (q : Call) (ds : List Device) → number q ds ≤ 14
most q ds = let g = given q ds in rw g.1 (small 0 (applying q ds) bounds (rising q ds) g.0)

pub order : Order
order = record { lowest = lowest; given = given; most = most }
