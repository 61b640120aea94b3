-- The proof of `specs/Soundness.antt`'s theorem: served calls, one kind after the other, leave sound records.
-- Assumes nothing.
use Rattle.ground.proofs.Names.{◌-◌, Bool, true, false, List, [], ◌∷◌, ◌≡◌, refl, eqb, length, get_or, eqb-true, if, length_tabulate, get_d_tabulate}
use Rattle.device.specs.PowerUp.{power_up}
use Rattle.device.specs.Families.{families, sound_record}
use Rattle.device.specs.declared.Device.{Device}
use Rattle.device.proofs.Families.{both_families}
use Rattle.calls.specs.Calls.{Step, scan, levels, clocks, Call, access, give, ask, ask_chain}
use Rattle.calls.specs.CallRefusals.{step_refusal, all_sound}
use Rattle.calls.specs.Served.{record_of, stepped, served}
use Rattle.calls.specs.Outcome.{number, after}
use Rattle.calls.specs.CallLists.{after_all}
use Rattle.calls.specs.Soundness.{Soundness}
use Rattle.calls.proofs.Accepted.{Accepted, number_says, levels_fit, port_levels_fit}
use Rattle.calls.proofs.Records.{sound_at, sound_all, sound_set, family_at_lem}

-- what a driver may be given leaves it sound
pub stepped_sound : (s : Step) (x : Device) → step_refusal x.family s ≡ 0 → sound_record x ≡ true → sound_record (stepped s x) ≡ true
stepped_sound (scan a b c d) x e = both_families.sound.after_scan x a b c d
stepped_sound (levels l) x e = both_families.sound.after_pins x l (levels_fit x.family l e) (port_levels_fit x.family l e)
stepped_sound (clocks k) x e = both_families.sound.after_clocks x k

-- each kind of call, served
served_sound : (q : Call) (ds : List Device) → Accepted (length ds) (families ds) (all_sound ds) q → all_sound (served q ds) ≡ true
served_sound (access c sent room) ds a =
    sound_all _
    (λ k h.
    rw (get_d_tabulate (length ds) _ power_up k (rw length_tabulate at h))
    (both_families.sound.after_word (get_or ds k power_up) _ (sound_at ds a.all_sound k)))
served_sound (give j s) ds a =
    sound_set ds (j - 1) _ a.all_sound
    (stepped_sound s (record_of ds j) (rw family_at_lem at a.argument) (sound_at ds a.all_sound (j - 1)))
served_sound (ask j q) ds a = a.all_sound
served_sound (ask_chain q) ds a = a.all_sound

-- any call
pub after_sound : (q : Call) (ds : List Device) → all_sound ds ≡ true → all_sound (after q ds) ≡ true
unfolding after
after_sound q ds s = go (eqb (number q ds) 0) refl
  where
    go : (b : Bool) → eqb (number q ds) 0 ≡ b → all_sound (if b (served q ds) ds) ≡ true
    go true e = served_sound q ds (number_says q ds (eqb-true _ 0 e))
    go false e = s

-- any list of calls
pub all_sound_lem : Soundness
unfolding after_all
all_sound_lem [] ds s = s
all_sound_lem (q ∷ qs) ds s = all_sound_lem qs (after q ds) (after_sound q ds s)
