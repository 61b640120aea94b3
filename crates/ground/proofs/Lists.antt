-- A list given by its elements.
-- Assumes nothing.
use Prim.Native.Nat.{ℕ, zero, suc, ◌<◌}
use native.Mathlib.Nat.{not-suc-le-zero}
use native.Mathlib.Omega.{arith}
use native.Mathlib.Decide.{dec_lt}
use mathlib.Core.List.{[], ◌∷◌, ◌++◌}
use mathlib.Core.Path.{◌≡◌, refl, ap, ◌∙◌}
use lib.ListN.{length, get_or, length-append, get_or-append}
use lib.Seq.{get_or_at}
use Rattle.ground.specs.Lists.{tabulate}

pub length_tabulate : {A : Type 0} (n : ℕ) (f : ℕ → A) → length (tabulate n f) ≡ n
unfolding tabulate
length_tabulate zero f = refl
length_tabulate (suc n) f = rw (length-append, length_tabulate n f) (omega arith)

-- element i is the value at i
pub get_d_tabulate : {A : Type 0} (n : ℕ) (f : ℕ → A) (z : A) (i : ℕ) → i < n → get_or (tabulate n f) i z ≡ f i
unfolding tabulate
get_d_tabulate zero f z i h = absurd (not-suc-le-zero h)
get_d_tabulate (suc n) f z i h = go (get_d_tabulate n f z i) (dec_lt i n)
  where
    go : (i < n → get_or (tabulate n f) i z ≡ f i) → Dec (i < n) → get_or (tabulate n f ++ f n ∷ []) i z ≡ f i
    go earlier (yes l) = get_or-append (tabulate n f) (f n ∷ []) z i (rw length_tabulate l) ∙ earlier l
    go earlier (no l) =
        let e : n ≡ i = omega arith in
        get_or_at (tabulate n f) (f n) [] z i (length_tabulate n f ∙ e) ∙ ap f e

-- lists whose elements are equal
pub tabulate_ext : {A : Type 0} (n : ℕ) (f g : ℕ → A) → ((k : ℕ) → k < n → f k ≡ g k) → tabulate n f ≡ tabulate n g
unfolding tabulate
tabulate_ext zero f g h = refl
tabulate_ext (suc n) f g h = rw (tabulate_ext n f g (λ k l. h k (omega arith)), h n (omega arith))
