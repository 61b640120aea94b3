-- A pass over a lent chain, one record more: what the records tell, and that their bytes are bytes. The record is read by an index within the chain, so it doesn't
-- matter what a read past the end gives.
--     default                    an element, whatever is read past the end
--     seen_turn, widths_turn     a turn of each pass
--     words_turn                 and the shift word that it copies
--     old_number                 the number after the last turn, of a call that names a driver
--     old_access, mixed_access   of an access
-- Assumes nothing.
use Rattle.ground.proofs.Names.{ℕ, ◌+◌, ◌<◌, List, ◌≡◌, subst, ap, ◌∙◌, length, get_or, take, set, drop-cons, true, false}
use Rattle.device.specs.PowerUp.{power_up}
use Rattle.device.specs.declared.Device.{Device}
use Rattle.device.specs.Families.{families}
use Rattle.calls.specs.CallRefusals.{families_below, all_sound}
use Rattle.pass.specs.Widths.{no_widths, widths_with, widths_of, fit, all_old, Bytes, AllBytes}
use Rattle.pass.specs.Found.{by_arguments, to_pass, to_pass_in, found, found_old, records_refusal, call_refusal}
use Rattle.pass.specs.OneByOne.{words_to}
use Rattle.pass.specs.Seen.{no_seen, seen_with, seen_of}
use Rattle.pass.specs.declared.Seen.{Seen}
use Rattle.pass.specs.declared.Widths.{Widths}
use Rattle.pass.proofs.WidthLaws.{widths_more, all_more}
use Rattle.pass.proofs.SeenLaws.{seen_more}
use Rattle.pass.proofs.StepLaws.{words_more}
use Rattle.pass.proofs.FoundLaws.{call_old, access_old, access_mixed}

pub default : {A : Type 0} (d e : A) (xs : List A) (i : ℕ) → i < length xs → get_or xs i d ≡ get_or xs i e
default d e xs i h = cc (drop-cons xs i d h, drop-cons xs i e h)

module _ (xs : List Device) (k : ℕ) (d : Device) (h : k < length xs) where
  abbrev same : get_or xs k d ≡ get_or xs k power_up
  same = default d power_up xs k h

  bytes_turn : AllBytes (take k xs) → Bytes (get_or xs k d) → AllBytes (take (k + 1) xs)
  bytes_turn y b = all_more xs k h y (subst Bytes same b)

  pub seen_turn : {s r : Seen} → s ≡ seen_of no_seen (take k xs) → AllBytes (take k xs) → r ≡ seen_with s (get_or xs k d) → Bytes (get_or xs k d)
      → (r ≡ seen_of no_seen (take (k + 1) xs)) × AllBytes (take (k + 1) xs)
  seen_turn e y q b =
      (q ∙ ap (λ (t : Seen). seen_with t (get_or xs k d)) e ∙ ap (seen_with (seen_of no_seen (take k xs))) same ∙ seen_more xs k h, bytes_turn y b)

  pub widths_turn : {s r : Widths} → s ≡ widths_of no_widths (take k xs) → AllBytes (take k xs) → r ≡ widths_with s (get_or xs k d) → Bytes (get_or xs k d)
      → (r ≡ widths_of no_widths (take (k + 1) xs)) × AllBytes (take (k + 1) xs)
  widths_turn e y q b =
      (q ∙ ap (λ (t : Widths). widths_with t (get_or xs k d)) e ∙ ap (widths_with (widths_of no_widths (take k xs))) same ∙ widths_more xs k h, bytes_turn y b)

  pub words_turn : (ws : List ℕ) {words : List ℕ} → words ≡ words_to xs ws k → k < length ws → set words k (get_or xs k d).shift ≡ words_to xs ws (k + 1)
  words_turn ws e l =
      ap (λ (l : List ℕ). set l k (get_or xs k d).shift) e ∙ ap (λ (x : Device). set (words_to xs ws k) k x.shift) same ∙ words_more xs ws k l

pub old_number : (xs : List Device) (driver own : ℕ) {first i : ℕ} {w : Widths} → first ≡ by_arguments (length xs) driver → i ≡ to_pass first (length xs) → w ≡ widths_of no_widths (take i xs)
    → AllBytes (take i xs) → all_old w ≡ true → found_old first (fit w) own ≡ call_refusal xs driver own
old_number xs driver own {w = w} f e g y a =
    let m = to_pass (by_arguments (length xs) driver) (length xs) in
    let e' = e ∙ ap (λ (k : ℕ). to_pass k (length xs)) f in
    let g' : w ≡ widths_of no_widths (take m xs) = g ∙ ap (λ (k : ℕ). widths_of no_widths (take k xs)) e' in
    rw (f, g') (call_old xs driver own (subst (λ (k : ℕ). AllBytes (take k xs)) e' y) (subst (λ (v : Widths). all_old v ≡ true) g' a))

-- the number of an access to them, of which the first so many are passed over
abbrev pub number_in : List Device → ℕ → ℕ → ℕ
number_in xs first n =
    found first (all_sound (take (to_pass_in first (length xs) n) xs)) (families_below 2 (families (take (to_pass_in first (length xs) n) xs)))

pub old_access : (xs : List Device) (first n : ℕ) {i : ℕ} {w : Widths} → i ≡ to_pass_in first (length xs) n → w ≡ widths_of no_widths (take i xs)
    → AllBytes (take i xs) → all_old w ≡ true → found_old first (fit w) 0 ≡ number_in xs first n
old_access xs first n {w = w} e g y a =
    let m = to_pass_in first (length xs) n in
    let g' : w ≡ widths_of no_widths (take m xs) = g ∙ ap (λ (k : ℕ). widths_of no_widths (take k xs)) e in
    rw g' (access_old xs first n (subst (λ (k : ℕ). AllBytes (take k xs)) e y) (subst (λ (v : Widths). all_old v ≡ true) g' a))

pub mixed_access : (xs : List Device) (first n : ℕ) {i : ℕ} {w : Widths} → i ≡ to_pass_in first (length xs) n → w ≡ widths_of no_widths (take i xs)
    → AllBytes (take i xs) → all_old w ≡ false → records_refusal xs 0 0 ≡ number_in xs first n
mixed_access xs first n {w = w} e g y a =
    let m = to_pass_in first (length xs) n in
    let g' : w ≡ widths_of no_widths (take m xs) = g ∙ ap (λ (k : ℕ). widths_of no_widths (take k xs)) e in
    access_mixed xs first n (subst (λ (k : ℕ). AllBytes (take k xs)) e y) (subst (λ (v : Widths). all_old v ≡ false) g' a)
