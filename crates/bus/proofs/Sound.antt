-- Calls on the bus leave sound records.
-- Assumes nothing.
use Rattle.ground.proofs.Names.{ℕ, ◌-◌, Bool, true, false, List, [], ◌∷◌, ◌≡◌, refl, ◌∙◌, length, length-set, eqb-true, if}
use Rattle.device.specs.Families.{families, sound_record}
use Rattle.device.specs.declared.Device.{Device}
use Rattle.device.proofs.Families.{both_families}
use Rattle.calls.specs.Calls.{give as give_chain}
use Rattle.calls.specs.CallRefusals.{all_sound}
use Rattle.calls.specs.Served.{record_of, with_record}
use Rattle.calls.proofs.Records.{sound_at, sound_set, same_family, family_at_lem}
use Rattle.calls.proofs.Accepted.{zero_says}
use Rattle.calls.proofs.Sound.{stepped_sound}
use Rattle.bus.specs.declared.Bus.{Bus}
use Rattle.bus.specs.declared.Use.{Use}
use Rattle.bus.specs.declared.Use.TheVariants.{Command, Writing, Reading}
use Rattle.bus.specs.declared.State.{State}
use Rattle.bus.specs.declared.State.TheVariants.{Idle, Slave, Unmatched, Transfer}
use Rattle.bus.specs.States.{state_of}
use Rattle.bus.specs.BusCalls.{BusCall, start, put, get, stop, give, ask}
use Rattle.bus.specs.BusServed.{given, asked, served}
use Rattle.bus.specs.BusOutcome.{bus_after, parts_after}
use Rattle.bus.specs.BusLists.{bus_all, parts_all}
use Rattle.bus.specs.BusIsolation.{accepted}
use Rattle.bus.specs.BusSoundness.{BusSoundness}
use Rattle.bus.proofs.Kept.{same_served, given_family, asked_family}
use Rattle.bus.proofs.Accepted.{Sound, parts_by, bus_kept}

given_sound : (u : Use) (v : ℕ) (d : Device) → sound_record d ≡ true → sound_record (given u v d) ≡ true
given_sound Command v d e = both_families.sound.after_commanded d v e
given_sound Writing v d e = both_families.sound.after_received d v e
given_sound Reading v d e = e

asked_sound : (u : Use) (d : Device) → sound_record d ≡ true → sound_record (asked u d) ≡ true
asked_sound Command d e = e
asked_sound Writing d e = e
asked_sound Reading d e = both_families.sound.after_sent d e

-- a served call leaves as many records as it found, all sound
module _ {n : ℕ} {fs : List ℕ} (σ : List ℕ) (ds : List Device) (l : length ds ≡ n) (kinds : families ds ≡ fs) (e : all_sound ds ≡ true) where
  set_sound : (k : ℕ) (d : Device) → sound_record d ≡ true → (length (with_record ds k d) ≡ n) × (all_sound (with_record ds k d) ≡ true)
  set_sound k d s = (length-set ds _ _ ∙ l, sound_set ds (k - 1) d e s)

  served_sound : (q : BusCall) (s : State) → accepted n fs σ q ≡ true → (length (served q s ds) ≡ n) × (all_sound (served q s ds) ≡ true)
  served_sound start s a = (l, e)
  served_sound (put v) Idle a = (l, e)
  served_sound (put v) Slave a = (l, e)
  served_sound (put v) Unmatched a = (l, e)
  served_sound (put v) (Transfer k u) a = set_sound k _ (given_sound u v (record_of ds k) (sound_at ds e (k - 1)))
  served_sound get Idle a = (l, e)
  served_sound get Slave a = (l, e)
  served_sound get Unmatched a = (l, e)
  served_sound get (Transfer k u) a = set_sound k _ (asked_sound u (record_of ds k) (sound_at ds e (k - 1)))
  served_sound stop s a = (l, e)
  served_sound (give j x) s a =
      set_sound j _ (stepped_sound x (record_of ds j) (rw (← kinds, family_at_lem) at (zero_says n fs true 0 (give_chain j x) (eqb-true _ 0 a)).argument) (sound_at ds e (j - 1)))
  served_sound (ask j x) s a = (l, e)

-- any call, and any list of calls
pub sound_after : {n : ℕ} {fs : List ℕ} (σ : List ℕ) (q : BusCall) {b : Bus} {ds : List Device} → Sound n fs b ds → Sound n fs (bus_after σ q b ds) (parts_after σ q b ds)
sound_after {n} {fs} σ q {b} {ds} w =
    let p : (length (parts_after σ q b ds) ≡ n) × (all_sound (parts_after σ q b ds) ≡ true) = rw (parts_by σ q w) (go (accepted n fs σ q) refl) in
    record { count = p.0; kinds = rw (parts_by σ q w) (kept (accepted n fs σ q)); records = p.1; bus = (bus_kept σ q w).0 }
  where
    go : (a : Bool) → accepted n fs σ q ≡ a → (length (if a (served q (state_of b) ds) ds) ≡ n) × (all_sound (if a (served q (state_of b) ds) ds) ≡ true)
    go true a = served_sound σ ds w.count w.kinds w.records q (state_of b) a
    go false a = (w.count, w.records)

    kept : (a : Bool) → families (if a (served q (state_of b) ds) ds) ≡ fs
    kept true = same_served (λ d. d.family) given_family asked_family same_family q (state_of b) ds ∙ w.kinds
    kept false = w.kinds

pub sound_all : {n : ℕ} {fs : List ℕ} (σ : List ℕ) (qs : List BusCall) {b : Bus} {ds : List Device} → Sound n fs b ds → Sound n fs (bus_all σ qs b ds) (parts_all σ qs b ds)
unfolding parts_all bus_all
sound_all σ [] w = w
sound_all σ (q ∷ qs) w = sound_all σ qs (sound_after σ q w)

pub soundness : BusSoundness
soundness σ qs b ds s t =
    let w = sound_all σ qs (record { count = refl; kinds = refl; records = s; bus = t }) in
    (w.records, w.bus)
