-- What a report prints, by the answer of the lit time.
-- Assumes nothing.
use Rattle.ground.proofs.Names.{ℕ, zero, suc, ◌+◌, ◌*◌, ◌/◌, ◌%◌, ◌≤◌, ◌<◌, arith, Bool, true, false, ◌&&◌, List, ◌++◌, ◌≡◌, refl, sym, ap, ◌∙◌, ltb, length, get_or, get_or-take, take, length-take-le, drop, ltb-true, le-ltb, and_right}
use Rattle.text.specs.Text.{refusal_line}
use Rattle.refusals.specs.Numbers.{number_by}
use Rattle.refusals.specs.declared.Refusal.{Refusal}
use Rattle.refusals.specs.declared.Refusal.TheVariants.{Chain, Driver, Clocks, Sent, Room, Argument, Unsound, Record, Script, Clash, Address, Wanted, List as Listed, Lacked}
use Rattle.printed.specs.Script.{longest}
use Rattle.text.specs.Written.{Written}
use Rattle.text.proofs.Room.{written_length, whole_written}
use Rattle.lit_time.proofs.Limited.{zero_says, given}
use Rattle.lit_time.specs.Answer.{drivers_of, total_at, lit_number, lit_answer, totals_after}
use Rattle.lit_time.specs.declared.LitTimeAnswer.{LitTimeAnswer}
use Rattle.lit_time.specs.Report.{total_line, lines_of, total_lines, reported}

lines_ext : (m : ℕ) (f g : ℕ → List ℕ) → ((i : ℕ) → i < m → f i ≡ g i) → lines_of m f ≡ lines_of m g
unfolding lines_of
lines_ext zero f g h = refl
lines_ext (suc m) f g h = rw (lines_ext m f g (λ i l. h i (omega arith)), h m (omega arith))

-- the lines of the first totals
pub first_lines : (m : ℕ) (t : List ℕ) → m ≤ length t
    → total_lines (length (take m t)) (λ i. get_or (take m t) i 0) ≡ total_lines m (λ i. get_or t i 0)
first_lines m t h =
    rw (length-take-le m t h) (lines_ext m _ _ (λ i b. ap (λ (v : ℕ). total_line (i / 8 + 1) (i % 8) v) (get_or-take m t i 0 b)))

-- no row of the table is 0
pub some_number : (refusal : Refusal) → number_by refusal ≡ 0 → ⊥
some_number Chain e = absurd (omega (arith, e))
some_number Driver e = absurd (omega (arith, e))
some_number Clocks e = absurd (omega (arith, e))
some_number Sent e = absurd (omega (arith, e))
some_number Room e = absurd (omega (arith, e))
some_number Argument e = absurd (omega (arith, e))
some_number Unsound e = absurd (omega (arith, e))
some_number Record e = absurd (omega (arith, e))
some_number Script e = absurd (omega (arith, e))
some_number Clash e = absurd (omega (arith, e))
some_number Address e = absurd (omega (arith, e))
some_number Wanted e = absurd (omega (arith, e))
some_number Listed e = absurd (omega (arith, e))
some_number Lacked e = absurd (omega (arith, e))

-- a number that isn't 0 is 9 or 1, where there is room for 16 drivers
pub report_refused : (s t : List ℕ) (r : LitTimeAnswer) → length t ≡ 128 → r ≡ lit_answer s (length t) → (r.number ≡ 0 → ⊥) → reported s ≡ refusal_line r.number
unfolding reported
report_refused s t r l e z = go (ltb longest (length s)) refl
  where
    number : r.number ≡ lit_number s (length t)
    number = rw e

    go : (b : Bool) → ltb longest (length s) ≡ b → reported s ≡ refusal_line r.number
    go true q = rw (number, q)
    go false q = chain (ltb 0 (drivers_of s) && ltb (drivers_of s) 17) refl
      where
        chain : (b : Bool) → (ltb 0 (drivers_of s) && ltb (drivers_of s) 17) ≡ b → reported s ≡ refusal_line r.number
        chain true p =
            let m = ltb-true (drivers_of s) 17 (and_right (ltb 0 (drivers_of s)) (ltb (drivers_of s) 17) p) in
            let n : lit_number s (length t) ≡ 0 = rw (q, p, le-ltb (length t) (8 * drivers_of s) (omega arith)) in
            absurd (z (number ∙ n))
        chain false p = rw (number, q, p)

-- the lines of the totals that are found
pub report_served : (s t t' : List ℕ) (r : LitTimeAnswer) → length t ≡ 128 → r ≡ lit_answer s (length t) → t' ≡ totals_after s t → r.number ≡ 0
    → reported s ≡ total_lines (8 * r.drivers) (λ i. get_or t' i 0)
unfolding reported
report_served s t t' r l e o h =
    let m = drivers_of s in
    let z : lit_number s (length t) ≡ 0 = sym (ap (λ (x : LitTimeAnswer). x.number) e) ∙ h in
    let n : r.drivers ≡ m = rw (e, z) in
    let y = zero_says (ltb longest (length s)) (ltb 0 m && ltb m 17) (ltb (length t) (8 * m)) z in
    let same : (i : ℕ) → i < 8 * m → total_at s i ≡ get_or t' i 0 = λ i b. rw o (sym (given s t z i b)) in
    let g : total_lines (8 * m) (total_at s) ≡ total_lines (8 * m) (λ i. get_or t' i 0) =
    lines_ext (8 * m) _ _ (λ i b. ap (λ (v : ℕ). total_line (i / 8 + 1) (i % 8) v) (same i b)) in
    rw (n, y.0, y.1) g

-- the report in room that suffices
pub whole : (s out out' : List ℕ) (end : ℕ) → Written (reported s) 0 out out' end → end ≤ length out
    → ((end ≡ length (reported s)) × (end ≤ length out')) × (out' ≡ reported s ++ drop end out)
whole s out out' end w l =
    let e : end ≡ length (reported s) = omega (arith, w.place) in
    ((e, omega (arith, written_length _ _ _ _ _ w)), rw e (whole_written (reported s) out out' end w l))
