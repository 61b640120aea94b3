-- The totals that a script's lit time leaves.
-- Assumes nothing.
use Rattle.ground.proofs.Names.{ℕ, ◌+◌, ◌*◌, ◌-◌, ◌<◌, ◌≤◌, arith, List, ◌++◌, ◌≡◌, ap, ◌∙◌, length, length-append, length-drop, get_or, get_or-drop, drop, le-ltb, lt-ltb}
use lib.Seq.{get_or-append-add}
use Rattle.device.specs.PowerUp.{fresh_chain}
use Rattle.printed.specs.Script.{longest}
use Rattle.script_records.specs.Records.{Started}
use Rattle.script_records.specs.declared.Start.{Start}
use Rattle.lit_time.specs.Answer.{drivers_of, total_at, lit_number, totals_after}
use Rattle.lit_time_calls.specs.Progress.{Totals, time_of}
use Rattle.lit_time_calls.proofs.TotalLaws.{totals_list}

-- totals filled after others were put in their place
pub totals_over : {m : ℕ} {f : ℕ → ℕ} {t' : List ℕ} (t zeros : List ℕ) → length zeros ≡ m → m ≤ length t → Totals m f (zeros ++ drop m t) t' → Totals m f t t'
totals_over {m} {f} {t'} t zeros e h a =
    record {
      same_room = a.same_room ∙ simp (length-append, length-drop) (omega arith);
      total = a.total;
      rest = λ i l. a.rest i l ∙ behind i l;
    }
  where
    behind : (i : ℕ) → m ≤ i → get_or (zeros ++ drop m t) i 0 ≡ get_or t i 0
    behind i l =
        let p : i ≡ length zeros + (i - m) = omega arith in
        let q : m + (i - m) ≡ i = omega arith in
        ap (λ (k : ℕ). get_or (zeros ++ drop m t) k 0) p ∙ get_or-append-add zeros (drop m t) (i - m) 0 ∙ get_or-drop m t (i - m) 0 ∙ ap (λ (k : ℕ). get_or t k 0) q

-- the totals of a script that is served
pub served_totals : (s t t' : List ℕ) (p : Start) → Started s p → length s ≤ longest → 0 < p.n → p.n < 17 → 8 * p.n ≤ length t
    → Totals (8 * p.n) (time_of (drop p.from s) (fresh_chain p.n)) t t' → t' ≡ totals_after s t
served_totals s t t' p w h lo hi l a =
    let n : p.n ≡ drivers_of s = w.chain_length in
    let z : lit_number s (length t) ≡ 0 =
    rw (le-ltb longest (length s) h, ← w.chain_length, lt-ltb 0 p.n lo, lt-ltb p.n 17 hi, le-ltb (length t) (8 * p.n) l) in
    let b : Totals (8 * drivers_of s) (total_at s) t t' =
    record {
      same_room = a.same_room;
      total = λ i k. a.total i (rw n k) ∙ rw (w.others, w.chain_length);
      rest = λ i k. a.rest i (rw n k);
    } in
    rw z (totals_list (8 * drivers_of s) (total_at s) t t' (rw n at l) b)
