-- What an accepted byte does, by the bus state's numbers: the proof of `specs/Acknowledged.antt`'s theorem.
-- Assumes nothing.
use Rattle.ground.proofs.Names.{ℕ, zero, suc, ◌-◌, ◌/◌, ◌≤◌, ◌<◌, arith, not-suc-le-zero, true, false, ◌&&◌, List, [], ◌∷◌, ◌≡◌, refl, sym, ap, ◌∙◌, eqb, leb, ltb, length, get_or, set-get_or, eqb-true, eq-eqb, ne_eqb, ltb-true, if, odd, and_right}
use Rattle.device.specs.PowerUp.{power_up}
use Rattle.device.specs.Families.{families}
use Rattle.device.specs.declared.Device.{Device}
use Rattle.calls.specs.CallRefusals.{all_sound}
use Rattle.bus.specs.declared.Bus.{Bus}
use Rattle.bus.specs.Straps.{strap_of, matched}
use Rattle.bus.specs.declared.Use.{Use}
use Rattle.bus.specs.declared.Use.TheVariants.{Command, Writing, Reading}
use Rattle.bus.specs.declared.State.{State}
use Rattle.bus.specs.declared.State.TheVariants.{Idle, Slave, Unmatched, Transfer}
use Rattle.bus.specs.States.{free_at, use_at, state_of, bus_of, sound_bus}
use Rattle.bus.specs.BusCalls.{BusCall, put, get, on_bus}
use Rattle.bus.specs.BusRefusals.{wire_refusal}
use Rattle.bus.specs.BusOutcome.{number, bus_after, parts_after, reply}
use Rattle.bus.specs.BusServed.{opened, slave_reply, next, served, given_back}
use Rattle.bus.specs.Acknowledged.{Nobody, Byte}
use Rattle.bus.proofs.Straps.{Served, match_own, matches, match_le}
use Rattle.bus.proofs.States.{free_all, bus_state_lem}
use Rattle.bus.proofs.Accepted.{wire_says}

-- a call with the number 0 is served
module _ (σ : List ℕ) (q : BusCall) (b : Bus) (ds : List Device) (t : on_bus q ≡ true) (z : number σ q b ds ≡ 0) (s : State) (e : state_of b ≡ s) where
  served_by : (reply σ q b ds ≡ given_back (length ds) σ q s ds) × (parts_after σ q b ds ≡ served q s ds) × (bus_after σ q b ds ≡ bus_of (next (length ds) σ q s))
  unfolding reply parts_after bus_after
  served_by = rw (t, z) (rw e (refl, refl, refl))

-- what a bus state stands for, by its numbers
use_write : (P : Use → Type 0) → P Command → P Writing → (p : ℕ) → p < 2 → P (use_at p)
use_write P c w zero h = c
use_write P c w (suc zero) h = w
use_write P c w (suc (suc p)) h = absurd (omega arith)

pub state_part : (b : Bus) → 1 ≤ b.part → state_of b ≡ Transfer b.part (use_at b.phase)
state_part b h = rw (ne_eqb b.part 0 (λ e. omega arith))

pub state_free : (b : Bus) → b.part ≡ 0 → state_of b ≡ free_at b.phase
state_free b e = rw (eq-eqb b.part 0 e)

-- a byte that nobody takes, by the state: it reads 255, and nothing changes
abbrev Quiet : ℕ → List ℕ → BusCall → List Device → State → Type 0
Quiet n σ q ds s = (given_back n σ q s ds ≡ 0 ∷ 255 ∷ []) × (served q s ds ≡ ds) × (next n σ q s ≡ s)

-- a slave byte that names a part
pub slave_taken : (k v : ℕ) → 1 ≤ k → (opened k v ≡ Transfer k (if (odd v) Reading Command)) × (slave_reply k ≡ 1 ∷ 0 ∷ [])
slave_taken zero v h = absurd (not-suc-le-zero h)
slave_taken (suc k) v h = (refl, refl)

module _ (σ : List ℕ) (b : Bus) (ds : List Device) (sixteen : length σ ≡ 16) where
  -- of an accepted byte
  byte_sound : wire_refusal (length ds) (families ds) (all_sound ds && sound_bus (length ds) b) σ ≡ 0 → (Served (length ds) σ) × (b.phase < 3)
  byte_sound z =
      let w = wire_says (length ds) (families ds) (all_sound ds && sound_bus (length ds) b) σ z in
      (w.1, ltb-true b.phase 3 (and_right (leb b.part (length ds)) (ltb b.phase 3) (and_right (all_sound ds) (sound_bus (length ds) b) w.0)))

  quiet : (q : BusCall) → on_bus q ≡ true → number σ q b ds ≡ 0 → b.phase < 3 → (s : State) → state_of b ≡ s → Quiet (length ds) σ q ds s → Nobody σ q b ds b
  quiet q t z h s e w =
      let r = served_by σ q b ds t z s e in
      record { reads = r.0 ∙ w.0; same_parts = r.1 ∙ w.1; bus_left = r.2 ∙ ap bus_of (w.2 ∙ sym e) ∙ bus_state_lem b h }

  slave_none : (n v : ℕ) → Served n σ → ((k : ℕ) → 1 ≤ k → k ≤ n → strap_of σ k ≡ v / 2 → ⊥) → matched n σ v ≡ 0
  slave_none n v w f = go (matched n σ v) refl
    where
      go : (m : ℕ) → matched n σ v ≡ m → m ≡ 0
      go zero e = refl
      go (suc m) e =
          let l : suc m ≤ n = omega (arith, match_le n σ v, e) in
          absurd (f (suc m) (omega arith) l (eqb-true _ _ (sym (match_own sixteen w v (suc m) (omega arith) l) ∙ eq-eqb _ _ e)))

  pub acknowledged : Byte σ b ds
  unfolding number
  acknowledged =
      record {
        slave_matched = λ v k z e f h g m.
            let r = served_by σ (put v) b ds refl z Slave (rw (e, f)) in
            let x = matches sixteen (byte_sound z).0 v k h g m in
            let opens = elim (odd v) as (λ t. bus_of (Transfer k (if t Reading Command)) ≡ record { part = k; phase = if t 2 0 }) [ true ↦ refl | false ↦ refl ] in
            (r.0 ∙ rw x (slave_taken k v h).1, r.1, r.2 ∙ rw x (ap bus_of (slave_taken k v h).0 ∙ opens));
        slave_unmatched = λ v z e f m.
            let r = served_by σ (put v) b ds refl z Slave (rw (e, f)) in
            let x = slave_none (length ds) v (byte_sound z).0 m in
            record { reads = r.0 ∙ rw x; same_parts = r.1; bus_left = r.2 ∙ rw x };
        written = λ v z h f.
            let r = served_by σ (put v) b ds refl z _ (state_part b h) in (
              r.0 ∙ use_write (λ (u : Use). given_back (length ds) σ (put v) (Transfer b.part u) ds ≡ 1 ∷ 0 ∷ []) refl refl b.phase f,
              r.2 ∙ use_write (λ (u : Use). bus_of (next (length ds) σ (put v) (Transfer b.part u)) ≡ record { part = b.part; phase = 1 }) refl refl b.phase f,
            );
        read = λ z h f.
            let r = served_by σ get b ds refl z (Transfer b.part Reading) (state_part b h ∙ rw f) in
            (ap (λ (xs : List ℕ). get_or xs 0 0) r.0, r.2 ∙ ap (λ (p : ℕ). record { part = b.part; phase = p }) (sym f));
        given_idle = λ v z e f.
            quiet (put v) refl z (byte_sound z).1 (if (eqb b.phase 0) Idle Unmatched) (state_free b e ∙ rw (ne_eqb b.phase 1 f))
            (elim (eqb b.phase 0) as (λ t. Quiet (length ds) σ (put v) ds (if t Idle Unmatched)) [ true ↦ (refl, refl, refl) | false ↦ (refl, refl, refl) ]);
        given_in_read = λ v z h f.
            quiet (put v) refl z (byte_sound z).1 (Transfer b.part Reading) (state_part b h ∙ rw f) (refl, set-get_or ds (b.part - 1) power_up, refl);
        asked_none = λ z e.
            quiet get refl z (byte_sound z).1 _ (state_free b e)
            (free_all (Quiet (length ds) σ get ds) (refl, refl, refl) (refl, refl, refl) (refl, refl, refl) b.phase);
        asked_in_write = λ z h f.
            let same = set-get_or ds (b.part - 1) power_up in
            quiet get refl z (byte_sound z).1 _ (state_part b h)
            (use_write (λ (u : Use). Quiet (length ds) σ get ds (Transfer b.part u)) (refl, same, refl) (refl, same, refl) b.phase f);
      }
