-- An array read or written past its end.
-- Assumes nothing.
use Prim.Native.Nat.{ℕ, ◌≤◌}
use mathlib.Core.Path.{◌≡◌, sym, subst}
use mathlib.Core.List.{List}
use lib.ListN.{length, set, get_or, get_or-eq_default}
use lib.Seq.{set_out}

-- a store past the end changes nothing
pub kept : (n : ℕ) (l : List ℕ) (i v : ℕ) → length l ≡ n → n ≤ i → l ≡ set l i v
kept n l i v e h = sym (set_out l i v (subst (λ (k : ℕ). k ≤ i) (sym e) h))

-- a read past the end gives 0
pub past : (n : ℕ) (l : List ℕ) (i : ℕ) → length l ≡ n → n ≤ i → 0 ≡ get_or l i 0
past n l i e h = sym (get_or-eq_default l 0 (subst (λ (k : ℕ). k ≤ i) (sym e) h))
