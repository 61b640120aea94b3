-- The calls on a row by value, as the calls on the chain of its records.
-- Assumes nothing.
use Rattle.ground.proofs.Names.{ℕ, ◌+◌, ◌<◌, ◌≤◌, arith, List, [], ◌∷◌, ◌≡◌, refl, sym, ◌∙◌, length, take, length-append, length-take, ne_eqb}
use Rattle.refusals.specs.Refusals.{bytes_for}
use Rattle.refusals.proofs.RefusalLaws.{size_served as sizes-fit}
use Rattle.calls.specs.Calls.{Question, Call, access, give, ask, ask_chain}
use Rattle.calls.specs.Outcome.{number}
use Rattle.calls.proofs.Accepted.{number_says}
use Rattle.row.specs.Row.{records, number_on, reply_on, done_on, shown_on}
use Rattle.row.specs.declared.Row.{Row}
use Rattle.row.specs.declared.Done.{Done}
use Rattle.row.specs.declared.Shown.{Shown}
use Rattle.text.specs.Text.{each}
use Rattle.text.specs.Written.{Written}
use Rattle.text.proofs.Texts.{length_each}
use Rattle.printed.specs.Lines.{pin_text, answer_line, mark_letter, show_line, refusal_line, line_for}
use Rattle.printed.specs.Script.{named_mark}
use Rattle.script.specs.Progress.{Obeyed}
use Rattle.script_records.proofs.RowLaws.{ask_leaves}
use Rattle.calls.proofs.InOrder.{order}
use Rattle.script.proofs.LineLaws.{decimal_short, answer_length}

-- an access that is served has at most 4,096 clocks, and bytes for them
pub access_fits : (r : Row) (c : ℕ) (sent room : List ℕ) → number_on r (access c sent room) ≡ 0 → (c ≤ 4096) × (bytes_for c ≤ length sent)
access_fits r c sent room z =
    let f = sizes-fit c (length sent) (length room) (number_says (access c sent room) (records r) z).bytes in
    (f.0, f.1)

-- a call's number has at most two digits
pub number_small : (r : Row) (q : Call) → number_on r q < 100
number_small r q = omega (arith, order.most q (records r))

pub small_done : (r : Row) (q : Call) (done : Done) → done ≡ done_on r q → done.number < 100
small_done r q done e = rw e (number_small r q)

pub small_shown : (r : Row) (j : ℕ) (q : Question) (a : Shown) → a ≡ shown_on r j q → a.number < 100
small_shown r j q a e = rw e (number_small r (ask j q))

-- a refused call of any kind prints its number
refused_line : (q : Call) (number : ℕ) (back : List ℕ) (mark : ℕ) → (number ≡ 0 → ⊥) → line_for q number back mark ≡ refusal_line number
refused_line (access c sent room) number back mark h = rw (ne_eqb number 0 h)
refused_line (give j s) number back mark h = rw (ne_eqb number 0 h)
refused_line (ask j q) number back mark h = rw (ne_eqb number 0 h)
refused_line (ask_chain q) number back mark h = rw (ne_eqb number 0 h)

module _ (r : Row) (q : Call) (size at : ℕ) (out out' : List ℕ) (done : Done) (e : done ≡ done_on r q) where
  same_number : done.number ≡ number_on r q
  same_number = rw e

  same_row : done.row ≡ (done_on r q).row
  same_row = rw e

  -- a call that is refused
  pub refused : (end : ℕ) → 2 ≤ size → (done.number ≡ 0 → ⊥) → Written (refusal_line done.number) at out out' end
      → Obeyed r q size at out out' (record { row = done.row; at = end })
  refused end h z w =
      record {
        row_after = same_row;
        line = rw (refused_line q (number_on r q) (reply_on r q) (named_mark q (records r)) (rw (← same_number) z), ← same_number) w;
        short = omega (arith, w.place, decimal_short done.number);
      }

-- an access that is served
pub answered : (r : Row) (c : ℕ) (sent room : List ℕ) (size at : ℕ) (out out' back : List ℕ) (done : Done) (end : ℕ)
    → done ≡ done_on r (access c sent room) → done.number ≡ 0 → back ≡ reply_on r (access c sent room) → length sent + 7 ≤ size
    → Written (answer_line (take (bytes_for c) back)) at out out' end
    → Obeyed r (access c sent room) size at out out' (record { row = done.row; at = end })
answered r c sent room size at out out' back done end e z b h w =
    let q = access c sent room in
    let n : number_on r q ≡ 0 = sym (same_number r q size at out out' done e) ∙ z in
    record {
      row_after = same_row r q size at out out' done e;
      line = rw (n, ← b) w;
      short =
          omega (arith, w.place, answer_length (take (bytes_for c) back), length-take (bytes_for c) back, (access_fits r c sent room n).1);
    }

module _ (r : Row) (j : ℕ) (q : Question) (size at : ℕ) (out out' : List ℕ) (a : Shown) (end : ℕ) (e : a ≡ shown_on r j q) where
  same_answer : a.number ≡ number_on r (ask j q)
  same_answer = rw e

  -- a show that is served
  pub show_served : a.number ≡ 0 → length a.pins ≡ 19 → 6 ≤ size → Written (show_line a.pins a.mark) at out out' end
      → Obeyed r (ask j q) size at out out' (record { row = r; at = end })
  show_served z l h w =
      let n : number_on r (ask j q) ≡ 0 = sym same_answer ∙ z in
      let b : a.pins ≡ reply_on r (ask j q) = rw e in
      let m : a.mark ≡ named_mark (ask j q) (records r) = rw (e, n) in
      record {
        row_after = sym (ask_leaves r j q);
        line = rw (n, ← b, ← m) w;
        short = omega (arith, w.place, length-append (each pin_text a.pins) (32 ∷ mark_letter a.mark ∷ 10 ∷ []), length_each pin_text 1 (λ x. refl) a.pins);
      }

  -- one that is refused
  pub show_refused : (a.number ≡ 0 → ⊥) → 2 ≤ size → Written (refusal_line a.number) at out out' end
      → Obeyed r (ask j q) size at out out' (record { row = r; at = end })
  show_refused z h w = refused r (ask j q) size at out out' (record { number = a.number; row = r }) (rw (same_answer, ask_leaves r j q)) end h z w
