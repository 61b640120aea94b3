-- The parts of the record at the start of some bytes, and what stands behind it.
-- Assumes nothing.
use Rattle.ground.proofs.Names.{ℕ, ◌-◌, ◌<◌, arith, false, List, [], ◌∷◌, ◌≡◌, refl, sym, ap, ◌∙◌, eqb, length, take, drop, length-drop, length-take-le, take_all, drop-drop, eq-eqb, ne_eqb, if}
use Rattle.printed.specs.Format.{kind_of, body_length, size_of, body_of, well_formed, items_after, items}
use Rattle.printed.proofs.Records.{items_first, fits}
use Rattle.script_records.specs.Kinds.{kind_number}
use Rattle.script_records.specs.Parts.{IsFirst, IsCall, Stops}
use Rattle.script_records.specs.declared.format.Kind.{Kind}
use Rattle.script_records.specs.declared.format.Kind.TheVariants.{Chain, Access, Scan, Pins, Clocks, Show}
use Rattle.script_records.proofs.SizeLaws.{size_zero}

-- the kind of a byte
abbrev kind_by : ℕ → Kind
kind_by b = if (eqb b 1) Chain (if (eqb b 2) Access (if (eqb b 3) Scan (if (eqb b 4) Pins (if (eqb b 5) Clocks Show))))

by_number : (kind : Kind) → kind_by (kind_number kind) ≡ kind
by_number Chain = refl
by_number Access = refl
by_number Scan = refl
by_number Pins = refl
by_number Clocks = refl
by_number Show = refl

-- kinds of one byte are one
pub same_kind : (k l : Kind) → kind_number k ≡ kind_number l → k ≡ l
same_kind k l e = sym (by_number k) ∙ ap kind_by e ∙ by_number l

-- a part of some bytes to their end
pub to_end : (k : ℕ) (s : List ℕ) → take (length s - k) (drop k s) ≡ drop k s
to_end k s = take_all (length s - k) (drop k s) (rw length-drop (omega arith))

module _ (s : List ℕ) (n : ℕ) (part : List ℕ) (e : n ≡ body_length s) where
  -- the body, as the first bytes of what stands after the length
  pub body_there : part ≡ take n (take (length s - 5) (drop 5 s)) → part ≡ body_of s
  body_there p = rw (to_end 5 s, e) at p

  -- what stands behind it
  pub behind_there : part ≡ drop n (take (length s - 5) (drop 5 s)) → part ≡ drop (size_of s) s
  behind_there p = rw (to_end 5 s, e, drop-drop (body_length s) 5 s) at p

-- a record that is no chain record is a call
pub call_first : {s : List ℕ} {kind : Kind} {body rest : List ℕ} → IsFirst s kind body rest → (kind_number kind ≡ 1 → ⊥) → IsCall s kind body rest
call_first {s} {kind} {body} {rest} f o =
    let w = fits s f.whole in
    let h : 0 < length s = omega (arith, w.five) in
    let l : length (body_of s) ≡ body_length s = length-take-le (body_length s) (drop 5 s) (rw length-drop (omega (arith, w.whole))) in
    record {
      items = rw (f.own_kind, f.own_body, f.behind, items_first s h, f.whole, ne_eqb (kind_of s) 1 (λ e. o (f.own_kind ∙ e)));
      fits = rw (f.own_kind, f.own_body, l) w.body_fits;
      other = o;
      parts = rw (f.own_body, f.behind, l, length-drop) (omega (arith, w.whole));
    }

-- a chain record stops a run
pub chain_stops : {s : List ℕ} {kind : Kind} {body rest : List ℕ} → IsFirst s kind body rest → kind_number kind ≡ 1 → Stops (items s)
chain_stops {s} f o =
    let w = fits s f.whole in
    let h : 0 < length s = omega (arith, w.five) in
    rw (items_first s h, f.whole, eq-eqb (kind_of s) 1 (sym f.own_kind ∙ o)) tt

-- so does what isn't well-formed, and the end
pub none_stops : (s : List ℕ) → well_formed s ≡ false → Stops (items s)
unfolding items_after
none_stops [] e = tt
none_stops (b ∷ s) e = let h : 0 < length (b ∷ s) = omega arith in rw (items_first (b ∷ s) h, e) tt

pub nothing_stops : (s : List ℕ) → 0 ≡ if (well_formed s) (size_of s) 0 → Stops (items s)
nothing_stops s e = none_stops s (size_zero (well_formed s) (body_length s) 0 e refl)
