-- Believed: document 02, request 3: sixteen straps, of which the first n count; 001, "Slave Address": a slave byte's upper seven bits are the address of the part that it names.
-- Assumes nothing.
use Rattle.std.specs.Prelude.{ℕ, zero, suc, ◌-◌, ◌/◌, Bool, true, ◌&&◌, List, [], ◌∷◌, eqb, ltb, get_or, take}
use Rattle.ground.specs.Choice.{if}

-- part k's strap; parts are counted from 1
abbrev pub strap_of : List ℕ → ℕ → ℕ
strap_of σ k = get_or σ (k - 1) 0

-- a place one further on; 0 is no place
abbrev pub further : ℕ → ℕ
further zero = zero
further (suc k) = suc (suc k)

-- the first place of a number in a list, counted from 1; 0 where it has none
unfoldable pub place_of : ℕ → List ℕ → ℕ
place_of a [] = 0
place_of a (s ∷ ss) = if (eqb s a) 1 (further (place_of a ss))

-- the part, of n, that a slave byte names; 0 where it names none
abbrev pub matched : ℕ → List ℕ → ℕ → ℕ
matched n σ v = place_of (v / 2) (take n σ)

-- no number stands in the list twice: not "two parts with one address"
unfoldable pub distinct : List ℕ → Bool
distinct [] = true
distinct (s ∷ ss) = eqb (place_of s ss) 0 && distinct ss

-- every number of the list is seven bits: no "address above 127"
unfoldable pub seven_bits : List ℕ → Bool
seven_bits [] = true
seven_bits (s ∷ ss) = ltb s 128 && seven_bits ss
