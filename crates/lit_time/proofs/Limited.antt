-- The numbers of the call, and where each total stands.
-- Assumes nothing.
use Rattle.ground.proofs.Names.{ℕ, ◌+◌, ◌-◌, ◌*◌, ◌/◌, ◌%◌, ◌<◌, ◌≤◌, arith, Bool, true, false, ◌&&◌, List, ◌++◌, ◌∷◌, [], ◌≡◌, refl, ap₂, ◌∙◌, eqb, ltb, length, get_or, drop, length-append, length-drop, ne_eqb, lt-ltb, le-ltb, ltb-false, get_or-drop, List·getD-append, get_d_tabulate, length_tabulate, tabulate, eqb-true, if}
use lib.Seq.{get_or-append-add}
use Rattle.text.proofs.Digits.{one_place}
use Rattle.text.specs.Text.{refusal_line}
use Rattle.printed.specs.Script.{longest}
use Rattle.lit_time.specs.ScriptTime.{script_time}
use Rattle.lit_time.specs.Answer.{drivers_of, total_at, lit_number, lit_answer, totals_after}
use Rattle.lit_time.specs.Report.{reported}
use Rattle.lit_time.specs.Limits.{Refused, Limits}

-- a number that isn't 0
refused : (s t : List ℕ) (n : ℕ) → lit_number s (length t) ≡ n → (n ≡ 0 → ⊥) → Refused s t n
refused s t n e z = let f = ne_eqb n 0 z in record { answer = rw (e, f); same_totals = rw (e, f) }

-- a chain's test
none : (n : ℕ) → n ≡ 0 → (ltb 0 n && ltb n 17) ≡ false
none n e = rw e

long : (n : ℕ) → 16 < n → (ltb 0 n && ltb n 17) ≡ false
long n h = rw (lt-ltb 0 n (omega arith), le-ltb n 17 (omega arith))

some : (n : ℕ) → 1 ≤ n → n ≤ 16 → (ltb 0 n && ltb n 17) ≡ true
some n h g = rw (lt-ltb 0 n (omega arith), lt-ltb n 17 (omega arith))

too_long : (s t : List ℕ) → 65536 < length s → Refused s t 9
too_long s t h = refused s t 9 (rw (lt-ltb longest (length s) h)) (omega arith)

-- the lines of 9 and 1
line_nine : refusal_line 9 ≡ 82 ∷ 32 ∷ 57 ∷ 10 ∷ []
line_nine = rw (one_place 9 (omega arith))

line_one : refusal_line 1 ≡ 82 ∷ 32 ∷ 49 ∷ 10 ∷ []
line_one = rw (one_place 1 (omega arith))

too_long_report : (s : List ℕ) → 65536 < length s → reported s ≡ 82 ∷ 32 ∷ 57 ∷ 10 ∷ []
unfolding reported
too_long_report s h = rw (lt-ltb longest (length s) h) line_nine

module _ (s : List ℕ) (h : length s ≤ 65536) where
  bad : (t : List ℕ) → (ltb 0 (drivers_of s) && ltb (drivers_of s) 17) ≡ false → Refused s t 1
  bad t e = refused s t 1 (rw (le-ltb longest (length s) h, e)) (omega arith)

  bad_report : (ltb 0 (drivers_of s) && ltb (drivers_of s) 17) ≡ false → reported s ≡ 82 ∷ 32 ∷ 49 ∷ 10 ∷ []
  unfolding reported
  bad_report e = rw (le-ltb longest (length s) h, e) line_one

  no_room : (t : List ℕ) → 1 ≤ drivers_of s → drivers_of s ≤ 16 → length t < 8 * drivers_of s → Refused s t 5
  no_room t a b l = refused s t 5 (rw (le-ltb longest (length s) h, some (drivers_of s) a b, lt-ltb (length t) (8 * drivers_of s) l)) (omega arith)

  served : (t : List ℕ) → 1 ≤ drivers_of s → drivers_of s ≤ 16 → 8 * drivers_of s ≤ length t → lit_answer s (length t) ≡ record { number = 0; drivers = drivers_of s }
  served t a b l = rw (le-ltb longest (length s) h, some (drivers_of s) a b, le-ltb (length t) (8 * drivers_of s) l)

-- what the number 0 says
pub zero_says : (a b c : Bool) → ◌≡◌ {A = ℕ} (if a 9 (if (eqb (if b 0 1) 0) (if c 5 0) 1)) 0 → (a ≡ false) × (b ≡ true) × (c ≡ false)
zero_says true b c e = absurd (omega arith)
zero_says false true true e = absurd (omega arith)
zero_says false true false e = (refl, refl, refl)
zero_says false false c e = absurd (omega arith)

-- the totals that are given
pub given : (s t : List ℕ) → lit_number s (length t) ≡ 0 → (i : ℕ) → i < 8 * drivers_of s → get_or (totals_after s t) i 0 ≡ total_at s i
given s t z i l =
    rw (z, List·getD-append (tabulate (8 * drivers_of s) (total_at s)) (drop (8 * drivers_of s) t) 0 i (rw length_tabulate l)) (get_d_tabulate (8 * drivers_of s) (total_at s) 0 i l)

total : (s t : List ℕ) (j d : ℕ) → (lit_answer s (length t)).number ≡ 0 → 1 ≤ j → j ≤ drivers_of s → d < 8
    → get_or (totals_after s t) (8 * (j - 1) + d) 0 ≡ script_time s j d
total s t j d z a b l =
    let q : (8 * (j - 1) + d) / 8 + 1 ≡ j = omega arith in
    let m : (8 * (j - 1) + d) % 8 ≡ d = omega arith in
    given s t z (8 * (j - 1) + d) (omega arith) ∙ ap₂ (λ (a b : ℕ). script_time s a b) q m

module _ (s t : List ℕ) where
  abbrev m : ℕ
  m = 8 * drivers_of s

  -- served, the room has as many totals at least
  wide : lit_number s (length t) ≡ 0 → m ≤ length t
  wide z = ltb-false (length t) m (zero_says (ltb longest (length s)) (ltb 0 (drivers_of s) && ltb (drivers_of s) 17) (ltb (length t) m) z).2

  rest : (i : ℕ) → m ≤ i → get_or (totals_after s t) i 0 ≡ get_or t i 0
  rest i h = go (eqb (lit_number s (length t)) 0)
    where
      go : (b : Bool) → get_or (if b (tabulate m (total_at s) ++ drop m t) t) i 0 ≡ get_or t i 0
      go false = refl
      go true =
          let e : length (tabulate m (total_at s)) + (i - m) ≡ i = rw length_tabulate (omega arith) in
          let f : m + (i - m) ≡ i = omega arith in
          rw e at (get_or-append-add (tabulate m (total_at s)) (drop m t) (i - m) 0) ∙ get_or-drop m t (i - m) 0 ∙ rw f

  same_room : length (totals_after s t) ≡ length t
  same_room = go (eqb (lit_number s (length t)) 0) refl
    where
      go : (b : Bool) → eqb (lit_number s (length t)) 0 ≡ b → length (if b (tabulate m (total_at s) ++ drop m t) t) ≡ length t
      go false e = refl
      go true e = rw (length-append, length_tabulate, length-drop) (omega (arith, wide (eqb-true (lit_number s (length t)) 0 e)))

pub limits : Limits
limits =
    record {
      too_long = too_long;
      too_long_report = too_long_report;
      no_chain = λ s t h e. bad s h t (none (drivers_of s) e);
      long_chain = λ s t h e. bad s h t (long (drivers_of s) e);
      no_chain_report = λ s h e. bad_report s h (none (drivers_of s) e);
      long_chain_report = λ s h e. bad_report s h (long (drivers_of s) e);
      no_room = λ s t h. no_room s h t;
      served = λ s t h. served s h t;
      total = total;
      rest = rest;
      same_room = same_room;
    }
