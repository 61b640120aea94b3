-- The table obeys the rule, by one test that is computed over its 456 entries.
-- Assumes nothing.
use Rattle.ground.proofs.Names.{ℕ, ◌+◌, ◌-◌, ◌*◌, ◌<◌, Bool, true, false, ◌&&◌, [], ◌∷◌, ◌++◌, map, ◌≡◌, refl, eqb, ltb, get_or, replicate, set, eqb-true, lt-ltb, le-ltb, if, tabulate, all, all_at, tabulate_ext, and_left, and_right}
use Rattle.wiring.specs.Segments.{none, 1a, 1b, 1c, 1d, 1e, 1f, 1g, 1dp, 2a, 2b, 2c, 2d, 2e, 2f, 2g, 2dp, sixteen, fourteen, pair, list_of, nothing, first, second, light_of}
use Rattle.wiring.specs.Wiring.{digit_of, cathode, not_driven, partner, rule_at, wire_at}
use Rattle.wiring.specs.Table.{segment_entry, wire_entry, display_index, table, entry_at, others, WiringTable}
use Rattle.wiring.specs.declared.Display.{Display}
use Rattle.wiring.specs.declared.Display.TheVariants.{Sixteen, Fourteen, SevenPair}

module _ (k : Display) (d : ℕ) where
  unfoldable listed : ℕ → Bool
  listed r = eqb (entry_at k d (get_or (others d) r 0)) (segment_entry (get_or (list_of k) r none))

  unfoldable ruled : ℕ → Bool
  ruled p = eqb (entry_at k d p) (wire_entry (rule_at k d p))

  abbrev row : Bool
  row = eqb (entry_at k d d) (wire_entry cathode) && (eqb (entry_at k d (partner d)) (wire_entry not_driven) && (all listed 17 && all ruled 19))

tested : (k : Display) → all (row k) 8 ≡ true
unfolding listed ruled
tested Sixteen = refl
tested Fourteen = refl
tested SevenPair = refl

row_at : (k : Display) (d : ℕ) → d < 8 → row k d ≡ true
row_at k = all_at (row k) 8 (tested k)

entry_at_lem : (k : Display) (d p : ℕ) → d < 8 → p < 19 → entry_at k d p ≡ wire_entry (rule_at k d p)
unfolding ruled
entry_at_lem k d p h l = let t = row_at k d h in eqb-true _ _ (all_at (ruled k d) 19 (search (and_left, and_right)) p l)

pair_bits : map light_of pair
    ≡ first 6 ∷ nothing ∷ first 5 ∷ first 4 ∷ first 3 ∷ first 7 ∷ first 2 ∷ first 1 ∷ first 0 ∷ tabulate 7 (λ r. second (6 - r)) ++ second 7 ∷ []
unfolding tabulate
pair_bits = refl

first_names : map light_of (1dp ∷ 1a ∷ 1b ∷ 1c ∷ 1d ∷ 1e ∷ 1f ∷ 1g ∷ []) ≡ tabulate 8 (λ r. first (7 - r))
unfolding tabulate
first_names = refl

second_names : map light_of (2dp ∷ 2a ∷ 2b ∷ 2c ∷ 2d ∷ 2e ∷ 2f ∷ 2g ∷ []) ≡ tabulate 8 (λ r. second (7 - r))
unfolding tabulate
second_names = refl

own_digits : (d : ℕ) → map (digit_of d) sixteen ++ map (digit_of d) fourteen ≡ replicate 34 d
own_digits d = refl

pair_digits : (d : ℕ) → map (digit_of d) pair ≡ replicate 9 d ++ replicate 8 (d + 8)
pair_digits d = refl

no_cathode : (k : Display) (d p : ℕ) → 7 < d → wire_at k d p ≡ not_driven
no_cathode k d p h = rw (le-ltb d 8 h)

no_pin : (k : Display) (d p : ℕ) → 18 < p → wire_at k d p ≡ not_driven
no_pin k d p h = rw (le-ltb p 19 h) (go (ltb d 8))
  where
    go : (b : Bool) → if b not_driven not_driven ≡ not_driven
    go true = refl
    go false = refl

fourteen_bits : map light_of fourteen ≡ set (set (map light_of sixteen) 1 nothing) 5 nothing
fourteen_bits = refl

pub wired : WiringTable
unfolding listed tabulate
wired =
    record {
      cathodes = λ k d h. let t = row_at k d h in eqb-true _ _ (search and_left);
      partners = λ k d h. let t = row_at k d h in eqb-true _ _ (search (and_left, and_right));
      segments = λ k d r h l. let t = row_at k d h in eqb-true _ _ (all_at (listed k d) 17 (search (and_left, and_right)) r l);
      entries = entry_at_lem;
      sixteen_bits = refl;
      fourteen_bits = fourteen_bits;
      pair_bits = pair_bits;
      first_names = first_names;
      second_names = second_names;
      own_digits = own_digits;
      pair_digits = pair_digits;
      no_cathode = no_cathode;
      no_pin = no_pin;
    }

-- the row of a cathode
pub wired_row : (k : Display) (d n : ℕ) → d < 8 → n ≡ display_index k → tabulate 19 (λ p. get_or table (n * 152 + d * 19 + p) 0) ≡ tabulate 19 (λ p. wire_entry (wire_at k d p))
wired_row k d n hd e =
    tabulate_ext 19 _ _ (λ p hp. rw (e, lt-ltb d 8 hd, lt-ltb p 19 hp) (entry_at_lem k d p hd hp))
