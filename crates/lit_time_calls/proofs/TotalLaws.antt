-- Totals in lent room: some of them added to, and a list of them by its elements.
-- Assumes nothing.
use Rattle.ground.proofs.Names.{ℕ, ◌+◌, ◌<◌, ◌≤◌, arith, List, ◌++◌, ◌≡◌, sym, ap, ◌∙◌, length, get_or, take, drop, length-drop, take-append-drop, ext_get_or, get_or-drop, tabulate, tabulate_ext, tabulate_take}
use Rattle.lit_time_calls.specs.Progress.{Added, Totals}

-- the whole room
pub totals_list : (m : ℕ) (f : ℕ → ℕ) (t t' : List ℕ) → m ≤ length t → Totals m f t t' → t' ≡ tabulate m f ++ drop m t
totals_list m f t t' h a =
    let l : m ≤ length t' = omega (arith, a.same_room) in
    let p : tabulate m f ≡ take m t' = tabulate_ext m f (λ i. get_or t' i 0) (λ i b. sym (a.total i b)) ∙ tabulate_take 0 m t' l in
    let q : drop m t' ≡ drop m t =
    ext_get_or 0 (drop m t') (drop m t) (simp length-drop (omega (arith, a.same_room))) (λ i b. get_or-drop m t' i 0 ∙ a.rest (m + i) (omega arith) ∙ sym (get_or-drop m t i 0)) in
    rw (p, ← q) (sym (take-append-drop m t'))

-- the same added, said otherwise
pub added_same : {w : ℕ} {f g : ℕ → ℕ} {at : ℕ} {t t' : List ℕ} → Added w f at t t' → ((d : ℕ) → d < w → f d ≡ g d) → Added w g at t t'
added_same {w} {f} {g} {at} {t} {t'} a e =
    record {
      same_room = a.same_room;
      within = λ d l. a.within d l ∙ ap (λ (x : ℕ). get_or t (at + d) 0 + x) (e d l);
      below = a.below;
      above = a.above;
    }
