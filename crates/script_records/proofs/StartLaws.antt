-- Where a run starts.
-- Assumes nothing.
use Rattle.ground.proofs.Names.{ℕ, ◌+◌, ◌<◌, arith, false, List, [], ◌∷◌, ◌≡◌, refl, sym, ◌∙◌, length, drop, length-drop, length-take-le, get_or-take, get_or-drop, eq-eqb, eqb-true, if}
use Rattle.printed.specs.Format.{byte, kind_of, body_length, size_of, well_formed, items_after}
use Rattle.printed.specs.Script.{assumed_chain}
use Rattle.printed.proofs.Records.{items_first, fits}
use Rattle.script_records.specs.Kinds.{kind_number}
use Rattle.script_records.specs.Parts.{IsFirst, IsCall}
use Rattle.script_records.specs.Records.{Started}
use Rattle.script_records.specs.declared.format.Kind.{Kind}
use Rattle.script_records.specs.declared.Start.{Start}
use Rattle.script_records.proofs.SizeLaws.{size_zero}

-- a script that doesn't begin with a chain record
abbrev pub assumed : Start
assumed = record { n = assumed_chain; from = 0 }

-- a chain record is first
pub starts_after : {s : List ℕ} {kind : Kind} {body rest : List ℕ} → IsFirst s kind body rest → kind_number kind ≡ 1
    → Started s (record { n = byte body 0; from = 5 + length body })
starts_after {s} {kind} {body} f o =
    let w = fits s f.whole in
    let h : 0 < length s = omega (arith, w.five) in
    let k : kind_of s ≡ 1 = sym f.own_kind ∙ o in
    let n : body_length s ≡ 1 = eqb-true (body_length s) 1 (rw k at w.body_fits) in
    let l : length body ≡ body_length s = rw f.own_body (length-take-le (body_length s) (drop 5 s) (rw length-drop (omega (arith, w.whole)))) in
    let b : byte body 0 ≡ byte s 5 = rw (f.own_body, n) (get_or-take 1 (drop 5 s) 0 0 (omega arith) ∙ get_or-drop 5 s 0 0) in
    record {
      chain_length = rw (items_first s h, f.whole, eq-eqb (kind_of s) 1 k) b;
      others = rw (l, items_first s h, f.whole, eq-eqb (kind_of s) 1 k);
      within = omega (arith, l, w.whole);
    }

-- another record is first
pub starts_at_call : {s : List ℕ} {kind : Kind} {body rest : List ℕ} → IsCall s kind body rest → Started s assumed
starts_at_call c = record { chain_length = rw c.items; others = rw c.items; within = omega arith }

-- a malformed record is first, or none
pub starts_malformed : (s : List ℕ) → 0 ≡ if (well_formed s) (size_of s) 0 → Started s assumed
unfolding items_after
starts_malformed s z = go s (size_zero (well_formed s) (body_length s) 0 z refl)
  where
    go : (s : List ℕ) → well_formed s ≡ false → Started s assumed
    go [] m = record { chain_length = refl; others = refl; within = omega arith }
    go (b ∷ r) m =
        let h : 0 < length (b ∷ r) = omega arith in
        record { chain_length = rw (items_first (b ∷ r) h, m); others = rw (items_first (b ∷ r) h, m); within = omega arith }
