-- The parts' addresses, as the library's iterators test them.
-- Assumes nothing.
use Rattle.std.specs.Prelude.{Option, None, Some, position, nat_eq, cond, ◌||◌}
use Rattle.std.specs.List.{list_any, list_all, position_from}
use Rattle.std.proofs.lemmas.Iterator.Adapters.{position_from-zero}
use Rattle.ground.proofs.Names.{ℕ, zero, suc, ◌+◌, arith, Bool, true, false, not, ◌&&◌, List, [], ◌∷◌, ◌≡◌, refl, sym, ap, ◌∙◌, eqb, ltb, length, take, ne_eqb, if}
use Rattle.refusals.specs.Refusals.{sound_refusal, clash_refusal, address_refusal, first_of}
use Rattle.refusals.proofs.RefusalLaws.{first_last}
use Rattle.bus.specs.declared.Bus.{Bus}
use Rattle.bus.specs.States.{sound_bus}
use Rattle.bus.specs.Straps.{further, place_of, distinct, seven_bits}
use Rattle.transfers.specs.Transfers.{part_at, refusal_from}

-- the place of a number, where the list starts at place i + 1
abbrev beyond : ℕ → ℕ → Option ℕ
beyond i zero = None
beyond i (suc p) = Some (i + p)

beyond_further : (i p : ℕ) → beyond i (further p) ≡ beyond (i + 1) p
beyond_further i zero = refl
beyond_further i (suc p) = ap Some (omega arith)

place_from : (a i : ℕ) (σ : List ℕ) → position_from (λ s. nat_eq s a) i σ ≡ beyond i (place_of a σ)
unfolding place_of
place_from a i [] = refl
place_from a i (s ∷ ss) = go (eqb s a) (place_from a (i + 1) ss)
  where
    go : (t : Bool) → position_from (λ s. nat_eq s a) (i + 1) ss ≡ beyond (i + 1) (place_of a ss) → cond t (Some i) (position_from (λ s. nat_eq s a) (i + 1) ss) ≡ beyond i (if t 1 (further (place_of a ss)))
    go true e = ap Some (omega arith)
    go false e = e ∙ sym (beyond_further i (place_of a ss))

-- the part with an address
pub place_found : (a : ℕ) (σ : List ℕ) → place_of a σ ≡ part_at (position (λ s. nat_eq s a) σ)
place_found a σ = go (place_of a σ) ∙ ap part_at (sym (position_from-zero (λ s. nat_eq s a) σ ∙ place_from a 0 σ))
  where
    go : (p : ℕ) → p ≡ part_at (beyond 0 p)
    go zero = refl
    go (suc p) = omega arith

further_none : (p : ℕ) → eqb (further p) 0 ≡ eqb p 0
further_none zero = refl
further_none (suc p) = grind arith

-- none has it
pub place_none : (a : ℕ) (σ : List ℕ) → eqb (place_of a σ) 0 ≡ not (list_any (λ s. nat_eq s a) σ)
unfolding place_of
place_none a [] = refl
place_none a (s ∷ ss) = go (eqb s a) (place_none a ss)
  where
    go : (t : Bool) → eqb (place_of a ss) 0 ≡ not (list_any (λ s. nat_eq s a) ss) → eqb (if t 1 (further (place_of a ss))) 0 ≡ not (t || list_any (λ s. nat_eq s a) ss)
    go true e = refl
    go false e = further_none (place_of a ss) ∙ e

-- no two are alike
pub distinct_end : (σ : List ℕ) → length σ ≡ 0 → distinct σ ≡ true
unfolding distinct
distinct_end [] e = refl
distinct_end (s ∷ ss) e = absurd (omega (arith, e))

pub distinct_step : (s : ℕ) (ss : List ℕ) → distinct (s ∷ ss) ≡ (not (list_any (λ y. nat_eq y s) ss) && distinct ss)
unfolding distinct
distinct_step s ss = rw (place_none s ss)

-- all are seven bits
pub seven_all : (σ : List ℕ) → list_all (λ a. ltb a 128) σ ≡ seven_bits σ
unfolding seven_bits
seven_all [] = refl
seven_all (s ∷ ss) = rw (seven_all ss)

-- ---- the number of a start, a byte or a stop, test by test
module _ (early n : ℕ) (b : Bus) (σ : List ℕ) where
  -- by the records, but that they lack the call
  pub by_records : (if (eqb early 14) 0 early ≡ 0 → ⊥) → refusal_from early n b σ ≡ if (eqb early 14) 0 early
  unfolding refusal_from
  by_records h = rw (ne_eqb (if (eqb early 14) 0 early) 0 h)

  -- by the bus state, the addresses, and then the records
  pub by_tests : if (eqb early 14) 0 early ≡ 0
      → refusal_from early n b σ ≡ if (sound_bus n b) (if (distinct (take n σ)) (if (list_all (λ a. ltb a 128) (take n σ)) early 11) 10) 7
  unfolding refusal_from
  by_tests e = rw (e, seven_all (take n σ)) (go (sound_bus n b) (distinct (take n σ)) (seven_bits (take n σ)))
    where
      go : (s d e : Bool) → ◌≡◌ {A = ℕ} (first_of (sound_refusal s ∷ clash_refusal d ∷ address_refusal e ∷ early ∷ [])) (if s (if d (if e early 11) 10) 7)
      go true true true = first_last early
      go true true false = refl
      go true false e = refl
      go false d e = refl
