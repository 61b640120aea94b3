-- Lists of records: what each call leaves of their number, and when they are sound.
-- Assumes nothing.
use Rattle.ground.proofs.Names.{ℕ, zero, suc, ◌-◌, ◌<◌, arith, Bool, true, false, List, [], ◌∷◌, map, ◌≡◌, refl, sym, ap, ◌∙◌, eqb, length, get_or, set, length-set, length-map, map-set_same, ext_get_or, List·getD-map, get_d_tabulate, get_or-set_same, get_or-set_other, eqb-true, eqb-false, if, length_tabulate, and_left, and_right}
use Rattle.device.specs.PowerUp.{power_up}
use Rattle.device.specs.Families.{takes, families, sound_record}
use Rattle.device.specs.declared.Device.{Device}
use Rattle.device.proofs.Families.{takes_family, pinned_family, both_families}
use Rattle.calls.specs.Calls.{Step, scan, levels, clocks, Call, access, give, ask, ask_chain}
use Rattle.calls.specs.CallRefusals.{family_at, all_sound}
use Rattle.wire.specs.Wire.{shifted}
use Rattle.calls.specs.Served.{record_of, shift_words, all_taken, stepped, served}
use Rattle.calls.specs.Outcome.{number, after}
use Rattle.calls.specs.CallLists.{after_all}
use Rattle.calls.specs.FittedBytes.{FittedBytes}

-- sound records: each is sound
pub sound_at : (ds : List Device) → all_sound ds ≡ true → (k : ℕ) → sound_record (get_or ds k power_up) ≡ true
unfolding all_sound
sound_at [] s k = (both_families.sound.at_power_up 255).0
sound_at (d ∷ ds) s zero = and_left (sound_record d) (all_sound ds) s
sound_at (d ∷ ds) s (suc k) = sound_at ds (and_right (sound_record d) (all_sound ds) s) k

pub sound_all : (ds : List Device) → ((k : ℕ) → k < length ds → sound_record (get_or ds k power_up) ≡ true) → all_sound ds ≡ true
unfolding all_sound
sound_all [] h = refl
sound_all (d ∷ ds) h = rw (h 0 (omega arith), sound_all ds (λ k l. h (suc k) (omega arith)))

-- one record replaced by a sound one
pub sound_set : (ds : List Device) (j : ℕ) (x : Device) → all_sound ds ≡ true → sound_record x ≡ true → all_sound (set ds j x) ≡ true
sound_set ds j x s sx = sound_all (set ds j x) (λ k h. go k (rw length-set at h) (eqb k j) refl)
  where
    go : (k : ℕ) → k < length ds → (b : Bool) → eqb k j ≡ b → sound_record (get_or (set ds j x) k power_up) ≡ true
    go k h true e =
        let q : j ≡ k = sym (eqb-true k j e) in
        rw (q, get_or-set_same ds k x power_up h) sx
    go k h false e = rw (get_or-set_other ds j k x power_up (eqb-false k j e)) (sound_at ds s k)

-- a call leaves as many records as it found
length_served : (q : Call) (ds : List Device) → length (served q ds) ≡ length ds
length_served (access c sent room) ds = length_tabulate (length ds) _
length_served (give j s) ds = length-set ds _ _
length_served (ask j q) ds = refl
length_served (ask_chain q) ds = refl

pub length_after : (q : Call) (ds : List Device) → length (after q ds) ≡ length ds
unfolding after
length_after q ds = elim (eqb (number q ds) 0) as (λ b. length (if b (served q ds) ds) ≡ length ds) [ true ↦ length_served q ds | false ↦ refl ]

-- what no step touches is as it was after a driver is given one
pub given_same : (f : Device → ℕ) → ((s : Step) (x : Device) → f (stepped s x) ≡ f x) → (j : ℕ) (s : Step) (ds : List Device)
    → map f (after (give j s) ds) ≡ map f ds
unfolding after
given_same f e j s ds =
    elim (eqb (number (give j s) ds) 0) as (λ b. map f (if b (served (give j s) ds) ds) ≡ map f ds)
    [ true ↦ map-set_same f ds (j - 1) _ power_up (e s (record_of ds j)) | false ↦ refl ]

-- no call changes a family
pub same_family : (s : Step) (x : Device) → (stepped s x).family ≡ x.family
same_family (scan a b c d) x = refl
same_family (levels l) x = pinned_family x l
same_family (clocks k) x = refl

-- what no word touches is as it was after every driver takes its own
taken_same : (f : Device → ℕ) → ((x : Device) (w : ℕ) → f (takes x w) ≡ f x) → (ds : List Device) (ws : List ℕ) → map f (all_taken ds ws) ≡ map f ds
taken_same f e ds ws =
    ext_get_or (f power_up) _ _ (length-map (all_taken ds ws) f ∙ length_tabulate (length ds) _ ∙ sym (length-map ds f)) (λ i h.
    let b : i < length ds = rw (length-map, length_tabulate) at h in
    List·getD-map f (all_taken ds ws) i power_up ∙ ap f (get_d_tabulate (length ds) _ power_up i b) ∙ e (get_or ds i power_up) (get_or ws i 0) ∙ sym (List·getD-map f ds i power_up))

-- what neither touches is as it was after any call, and after any list of calls
module _ (f : Device → ℕ) (by_word : (x : Device) (w : ℕ) → f (takes x w) ≡ f x) (by_step : (s : Step) (x : Device) → f (stepped s x) ≡ f x) where
  same_after : (q : Call) (ds : List Device) → map f (after q ds) ≡ map f ds
  unfolding after
  same_after (access c sent room) ds =
      elim (eqb (number (access c sent room) ds) 0) as (λ b. map f (if b (served (access c sent room) ds) ds) ≡ map f ds)
      [ true ↦ taken_same f by_word ds (shifted (shift_words ds) sent c) | false ↦ refl ]
  same_after (give j s) ds = given_same f by_step j s ds
  same_after (ask j q) ds = elim (eqb (number (ask j q) ds) 0) as (λ b. map f (if b ds ds) ≡ map f ds) [ true ↦ refl | false ↦ refl ]
  same_after (ask_chain q) ds = elim (eqb (number (ask_chain q) ds) 0) as (λ b. map f (if b ds ds) ≡ map f ds) [ true ↦ refl | false ↦ refl ]

  same_after_all : (qs : List Call) (ds : List Device) → map f (after_all qs ds) ≡ map f ds
  unfolding after_all
  same_after_all [] ds = refl
  same_after_all (q ∷ qs) ds = same_after_all qs (after q ds) ∙ same_after q ds

pub families_after : (q : Call) (ds : List Device) → families (after q ds) ≡ families ds
families_after = same_after (λ d. d.family) takes_family same_family

pub families_after_all : (qs : List Call) (ds : List Device) → families (after_all qs ds) ≡ families ds
families_after_all = same_after_all (λ d. d.family) takes_family same_family

-- nor does one change a fitted byte
pub same_fitted : (s : Step) (x : Device) → (stepped s x).fitted ≡ x.fitted
same_fitted (scan a b c d) x = (both_families.by_scan x a b c d).fitted
same_fitted (levels l) x = (both_families.by_pins x l).fitted
same_fitted (clocks k) x = (both_families.by_clocks x k).fitted

pub fitted_bytes_lem : FittedBytes
fitted_bytes_lem = same_after_all (λ d. d.fitted) (λ x w. (both_families.by_word x w).fitted) same_fitted

-- a driver's family by those of the row
pub family_at_lem : (ds : List Device) (j : ℕ) → family_at (families ds) j ≡ (record_of ds j).family
family_at_lem ds j = List·getD-map (λ (d : Device). d.family) ds (j - 1) power_up

pub length_after_all : (qs : List Call) (ds : List Device) → length (after_all qs ds) ≡ length ds
unfolding after_all
length_after_all [] ds = refl
length_after_all (q ∷ qs) ds = length_after_all qs (after q ds) ∙ length_after q ds
