-- Drivers of the old family: by the families of their row, and by a call that was served.
-- Assumes nothing.
use Rattle.ground.proofs.Names.{ℕ, zero, suc, ◌+◌, ◌-◌, arith, true, List, [], ◌∷◌, ◌≡◌, ltb, get_or, List·getD-map, lt-ltb, ltb-true, eq-eqb, eqb-false, and_left, and_right}
use Rattle.device.specs.PowerUp.{power_up}
use Rattle.device.specs.Sound.{sound_of}
use Rattle.device.specs.Families.{families, sound_record}
use Rattle.device.specs.declared.Device.{Device}
use Rattle.calls.specs.Calls.{clocks, give}
use Rattle.calls.specs.CallRefusals.{family_at, families_below}
use Rattle.calls.specs.Served.{record_of}
use Rattle.calls.specs.Outcome.{number}
use Rattle.calls.proofs.Accepted.{number_says}
use Rattle.calls.proofs.Records.{sound_at, family_at_lem}

-- a family of a row whose families are small
pub below_at : (k : ℕ) (fs : List ℕ) (i : ℕ) → families_below (k + 1) fs ≡ true → ltb (get_or fs i 0) (k + 1) ≡ true
unfolding families_below
below_at k [] i e = lt-ltb 0 (k + 1) (omega arith)
below_at k (f ∷ fs) zero e = and_left (ltb f (k + 1)) (families_below (k + 1) fs) e
below_at k (f ∷ fs) (suc i) e = below_at k fs i (and_right (ltb f (k + 1)) (families_below (k + 1) fs) e)

-- a row of the old family alone
pub old_at : (ds : List Device) → families_below 1 (families ds) ≡ true → (i : ℕ) → (get_or ds i power_up).family ≡ 0
old_at ds e i =
    omega (arith, ltb-true (get_or (families ds) i 0) 1 (below_at 0 (families ds) i e), List·getD-map (λ (d : Device). d.family) ds i power_up)

-- its records are sound by their own fields
pub sound_old : (d : Device) → d.family ≡ 0 → sound_record d ≡ true → sound_of d ≡ true
unfolding sound_record
sound_old d z s = rw (eq-eqb d.family 0 z) at s

-- so is the record of a driver to which clocks are given, where they are served: a MAX6957 lacks them
pub clocked_sound : (j k : ℕ) (ds : List Device) → number (give j (clocks k)) ds ≡ 0 → sound_of (record_of ds j) ≡ true
clocked_sound j k ds z =
    let a = number_says (give j (clocks k)) ds z in
    let known = ltb-true (family_at (families ds) j) 2 (below_at 1 (families ds) (j - 1) a.known) in
    let other = eqb-false (family_at (families ds) j) 1 a.has in
    sound_old (record_of ds j) (omega (arith, known, other, family_at_lem ds j)) (sound_at ds a.all_sound (j - 1))
