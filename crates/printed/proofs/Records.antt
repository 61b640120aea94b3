-- The records of a script, one after another, and each byte of one.
-- Assumes nothing.
use Rattle.ground.proofs.Names.{ℕ, zero, suc, ◌+◌, ◌*◌, ◌-◌, ◌≤◌, ◌<◌, arith, Bool, true, false, ◌&&◌, true≢false, List, [], ◌∷◌, ◌++◌, ◌≡◌, refl, sym, ap, ◌∙◌, eqb, leb, length, drop, replicate, tabulate, length-append, take_at, drop_at, eqb-true, leb-true, le-leb, if, and_left, and_right, div-add-mod'}
use Rattle.calls.specs.Calls.{scan, levels, clocks, segments, access, give, ask}
use Rattle.printed.specs.Format.{byte, kind_of, body_length, size_of, body_of, length_fits, well_formed, call_of, Item, chain, call, malformed, item_at, items_after, items}
use Rattle.printed.specs.ByteByByte.{entry, Unfit, ByteByByte}

-- bytes that are passed over
items_drop : (k : ℕ) (s : List ℕ) → items_after k s ≡ items (drop k s)
unfolding items_after
items_drop zero s = refl
items_drop (suc k) [] = refl
items_drop (suc k) (b ∷ s) = items_drop k s

drop_one : (k b : ℕ) (s : List ℕ) → 0 < k → drop (k - 1) s ≡ drop k (b ∷ s)
drop_one zero b s h = absurd (omega arith)
drop_one (suc k) b s h = let e : suc k - 1 ≡ k = omega arith in rw e

-- the first record, and the others after it
pub items_first : (s : List ℕ) → 0 < length s → items s ≡ item_at s ∷ items (drop (size_of s) s)
unfolding items_after
items_first [] h = absurd (omega arith)
items_first (b ∷ s) h = ap (λ (is : List Item). item_at (b ∷ s) ∷ is) (items_drop (size_of (b ∷ s) - 1) s ∙ ap items (drop_one (size_of (b ∷ s)) b s (omega arith)))

-- what a well-formed record says
pub record Fits (s : List ℕ) : Type 0 where
  pub five : 5 ≤ length s
  pub mark_first : byte s 0 ≡ 0x5A
  pub mark_second : byte s 1 ≡ 0xC3
  pub whole : size_of s ≤ length s
  pub body_fits : length_fits (kind_of s) (body_length s) ≡ true

pub fits : (s : List ℕ) → well_formed s ≡ true → Fits s
fits s t =
    let a = leb 5 (length s) in
    let b = eqb (byte s 0) 0x5A in
    let c = eqb (byte s 1) 0xC3 in
    let d = leb (size_of s) (length s) in
    let e = length_fits (kind_of s) (body_length s) in
    let t₁ = and_left (a && b && c && d) e t in
    let t₂ = and_left (a && b && c) d t₁ in
    let t₃ = and_left (a && b) c t₂ in
    record {
      five = leb-true 5 (length s) (and_left a b t₃);
      mark_first = eqb-true (byte s 0) 0x5A (and_right a b t₃);
      mark_second = eqb-true (byte s 1) 0xC3 (and_right (a && b) c t₂);
      whole = leb-true (size_of s) (length s) (and_right (a && b && c) d t₁);
      body_fits = and_right (a && b && c && d) e t;
    }

module _ (kind : ℕ) (body rest : List ℕ) (fits : length_fits kind (length body) ≡ true) where
  -- its body length is that of its body
  own_length : body_length (entry kind body ++ rest) ≡ length body
  own_length = omega (arith, div-add-mod' (length body) 256)

  -- it isn't cut
  whole : leb (size_of (entry kind body ++ rest)) (length (entry kind body ++ rest)) ≡ true
  whole =
      let s = entry kind body ++ rest in
      le-leb (size_of s) (length s) (omega (arith, own_length, length-append body rest))

  well_formed_lem : well_formed (entry kind body ++ rest) ≡ true
  well_formed_lem = rw (le-leb 5 (length (entry kind body ++ rest)) (omega arith), whole, own_length, fits)

  -- it is read whole
  own_body : body_of (entry kind body ++ rest) ≡ body
  own_body = rw own_length (take_at body rest (length body) refl)

  -- a record before other bytes
  entry_first : items (entry kind body ++ rest) ≡ if (eqb kind 1) (chain (byte (body ++ rest) 0)) (call (call_of kind body)) ∷ items rest
  entry_first =
      let s = entry kind body ++ rest in
      let z : drop (size_of s) s ≡ rest = rw own_length (drop_at (entry kind body) rest (5 + length body) (omega arith)) in
      rw (items_first s (omega arith), z, well_formed_lem, own_body)

-- bytes that aren't a well-formed record
misfit : (s : List ℕ) → (Fits s → ⊥) → item_at s ≡ malformed
misfit s h = go (well_formed s) refl
  where
    go : (b : Bool) → well_formed s ≡ b → if b (if (eqb (kind_of s) 1) (chain (byte s 5)) (call (call_of (kind_of s) (body_of s)))) malformed ≡ malformed
    go true e = absurd (h (fits s e))
    go false e = refl

-- neither of two choices holds
neither : (b x y : Bool) → (b ≡ true → x ≡ true → ⊥) → (y ≡ true → ⊥) → if b x y ≡ true → ⊥
neither true x y f g e = f refl e
neither false x y f g e = g e

unfit_length : (kind n : ℕ) → Unfit kind n → length_fits kind n ≡ true → ⊥
unfit_length kind n u =
    neither (eqb kind 1) (eqb n 1) _ (λ k l. u.no_chain (eqb-true kind 1 k) (eqb-true n 1 l))
    (neither (eqb kind 2) (leb 2 n) _ (λ k l. u.no_access (eqb-true kind 2 k) (leb-true 2 n l))
    (neither (eqb kind 3) (eqb n 5) _ (λ k l. u.no_scan (eqb-true kind 3 k) (eqb-true n 5 l))
    (neither (eqb kind 4) (eqb n 2) _ (λ k l. u.no_pins (eqb-true kind 4 k) (eqb-true n 2 l))
    (neither (eqb kind 5) (eqb n 5) _ (λ k l. u.no_clocks (eqb-true kind 5 k) (eqb-true n 5 l))
    (neither (eqb kind 6) (eqb n 2) false (λ k l. u.no_show (eqb-true kind 6 k) (eqb-true n 2 l)) (λ e. true≢false (sym e)))))))

-- each kind's record
chain_record_lem : (n : ℕ) (rest : List ℕ) → items (entry 1 (n ∷ []) ++ rest) ≡ chain n ∷ items rest
chain_record_lem n rest = entry_first 1 (n ∷ []) rest refl

access_record_lem : (high low : ℕ) (bits rest : List ℕ)
    → items (entry 2 (high ∷ low ∷ bits) ++ rest) ≡ call (access (256 * high + low) bits (replicate 512 0)) ∷ items rest
access_record_lem high low bits rest = entry_first 2 (high ∷ low ∷ bits) rest (le-leb 2 (length (high ∷ low ∷ bits)) (omega arith))

scan_record : (j a b c d : ℕ) (rest : List ℕ) → items (entry 3 (j ∷ a ∷ b ∷ c ∷ d ∷ []) ++ rest) ≡ call (give j (scan a b c d)) ∷ items rest
scan_record j a b c d rest = entry_first 3 (j ∷ a ∷ b ∷ c ∷ d ∷ []) rest refl

pins_record : (j l : ℕ) (rest : List ℕ) → items (entry 4 (j ∷ l ∷ []) ++ rest) ≡ call (give j (levels l)) ∷ items rest
pins_record j l rest = entry_first 4 (j ∷ l ∷ []) rest refl

high_first : (a b c d : ℕ) → 65536 * (256 * a + b) + (256 * c + d) ≡ 16777216 * a + 65536 * b + 256 * c + d
high_first a b c d = omega arith

clocks_record_lem : (j a b c d : ℕ) (rest : List ℕ)
    → items (entry 5 (j ∷ a ∷ b ∷ c ∷ d ∷ []) ++ rest) ≡ call (give j (clocks (16777216 * a + 65536 * b + 256 * c + d))) ∷ items rest
clocks_record_lem j a b c d rest =
    entry_first 5 (j ∷ a ∷ b ∷ c ∷ d ∷ []) rest refl ∙ ap (λ (k : ℕ). call (give j (clocks k)) ∷ items rest) (high_first a b c d)

show_record : (j d : ℕ) (rest : List ℕ)
    → items (entry 6 (j ∷ d ∷ []) ++ rest) ≡ call (ask j (segments d (tabulate 128 (λ k. 257 * k)) (tabulate 128 (λ k. 257 * k)))) ∷ items rest
show_record j d rest = entry_first 6 (j ∷ d ∷ []) rest refl

pub byte_by_byte : ByteByByte
byte_by_byte = record {
  chain_record = chain_record_lem;
  access_record = access_record_lem;
  scan_record = scan_record;
  pins_record = pins_record;
  clocks_record = clocks_record_lem;
  show_record = show_record;
  wrong_mark = λ a b s h. misfit (a ∷ b ∷ s) (λ f. h f.mark_first f.mark_second);
  unfit = λ kind high low s u. misfit (0x5A ∷ 0xC3 ∷ kind ∷ high ∷ low ∷ s) (λ f. unfit_length kind (256 * high + low) u f.body_fits);
  cut = λ kind high low s h. misfit (0x5A ∷ 0xC3 ∷ kind ∷ high ∷ low ∷ s) (λ f. omega (arith, h, f.whole));
  cut_early = λ s h. misfit s (λ f. omega (arith, h, f.five));
}
