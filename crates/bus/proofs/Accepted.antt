-- What a call's number says, and what the call does by it.
-- Assumes nothing.
use Rattle.ground.proofs.Names.{ℕ, ◌<◌, arith, Bool, true, false, ◌&&◌, List, [], ◌∷◌, ◌≡◌, refl, sym, eqb, leb, ltb, length, take, eqb-true, ltb-true, if, and_right, passed}
use Rattle.device.specs.Families.{families}
use Rattle.device.specs.declared.Device.{Device}
use Rattle.refusals.specs.Refusals.{chain_refusal, sound_refusal, clash_refusal, address_refusal, family_refusal}
use Rattle.calls.specs.CallRefusals.{families_below, all_sound}
use Rattle.calls.proofs.Accepted.{each_zero}
use Rattle.bus.specs.declared.Bus.{Bus}
use Rattle.bus.specs.Straps.{distinct, seven_bits}
use Rattle.bus.specs.States.{state_of, bus_of, sound_bus}
use Rattle.bus.specs.BusCalls.{BusCall, start, put, get, stop, give, ask, on_bus}
use Rattle.bus.specs.BusRefusals.{wire_refusal, sound_for}
use Rattle.bus.specs.BusOutcome.{number, bus_after, parts_after, reply}
use Rattle.bus.specs.BusServed.{next, served, given_back, refused_back}
use Rattle.bus.specs.BusIsolation.{refusal_alone, accepted}
use Rattle.bus.proofs.Straps.{Served}
use Rattle.bus.proofs.States.{Named, bus_state_lem, state_named, state_bus, bus_sound, next_named}

-- what the number 0 says of a start, a byte, a stop
pub wire_says : (n : ℕ) (fs : List ℕ) (sound : Bool) (σ : List ℕ) → wire_refusal n fs sound σ ≡ 0 → (sound ≡ true) × Served n σ
wire_says n fs sound σ z =
    let each = each_zero (chain_refusal n ∷ sound_refusal sound ∷ clash_refusal (distinct (take n σ)) ∷ address_refusal (seven_bits (take n σ)) ∷ family_refusal (families_below 1 fs) ∷ []) z in
    let small : n < 17 = ltb-true n 17 (and_right (ltb 0 n) (ltb n 17) (passed (ltb 0 n && ltb n 17) 0 0 (each 0)).0) in (
      (passed sound 0 6 (each 1)).0,
      record { few = omega arith; apart = (passed (distinct (take n σ)) 0 9 (each 2)).0; seven = (passed (seven_bits (take n σ)) 0 10 (each 3)).0 },
    )

-- of an accepted one
pub wire_served : (n : ℕ) (fs σ : List ℕ) → eqb (wire_refusal n fs true σ) 0 ≡ true → Served n σ
wire_served n fs σ a = (wire_says n fs true σ (eqb-true _ 0 a)).1

pub wire_old : (n : ℕ) (fs σ : List ℕ) → eqb (wire_refusal n fs true σ) 0 ≡ true → families_below 1 fs ≡ true
wire_old n fs σ a =
    let each = each_zero (chain_refusal n ∷ sound_refusal true ∷ clash_refusal (distinct (take n σ)) ∷ address_refusal (seven_bits (take n σ)) ∷ family_refusal (families_below 1 fs) ∷ []) (eqb-true _ 0 a) in
    (passed (families_below 1 fs) 0 13 (each 4)).0

-- what is given is sound
sound_for_lem : (q : BusCall) (b : Bus) (ds : List Device) → all_sound ds ≡ true → sound_bus (length ds) b ≡ true → sound_for q b ds ≡ true
sound_for_lem start b ds s t = rw (s, t)
sound_for_lem (put v) b ds s t = rw (s, t)
sound_for_lem get b ds s t = rw (s, t)
sound_for_lem stop b ds s t = rw (s, t)
sound_for_lem (give j x) b ds s t = s
sound_for_lem (ask j x) b ds s t = s

-- a call that takes no bus state leaves what a sound one stands for
on_bus_lem : (n : ℕ) (σ : List ℕ) (q : BusCall) (b : Bus) → b.phase < 3 → (a : Bool) → if (on_bus q && a) (bus_of (next n σ q (state_of b))) b ≡ if a (bus_of (next n σ q (state_of b))) b
on_bus_lem n σ start b h a = refl
on_bus_lem n σ (put v) b h a = refl
on_bus_lem n σ get b h a = refl
on_bus_lem n σ stop b h a = refl
on_bus_lem n σ (give j x) b h a = elim a as (λ t. b ≡ if t (bus_of (state_of b)) b) [ true ↦ sym (bus_state_lem b h) | false ↦ refl ]
on_bus_lem n σ (ask j x) b h a = elim a as (λ t. b ≡ if t (bus_of (state_of b)) b) [ true ↦ sym (bus_state_lem b h) | false ↦ refl ]

-- n sound records of these families and a sound bus state
pub record Sound (n : ℕ) (fs : List ℕ) (b : Bus) (ds : List Device) : Type 0 where
  pub count : length ds ≡ n
  pub kinds : families ds ≡ fs
  pub records : all_sound ds ≡ true
  pub bus : sound_bus n b ≡ true

module _ {n : ℕ} {fs : List ℕ} (σ : List ℕ) (q : BusCall) {b : Bus} {ds : List Device} (w : Sound n fs b ds) where
  -- on sound parts the arguments alone decide
  pub number_alone : number σ q b ds ≡ refusal_alone n fs σ q
  unfolding number
  number_alone = rw (sound_for_lem q b ds w.records (rw w.count w.bus), w.count, w.kinds)

  -- accepted it is served, refused it changes nothing
  pub bus_by : bus_after σ q b ds ≡ if (accepted n fs σ q) (bus_of (next n σ q (state_of b))) b
  unfolding bus_after
  bus_by = rw (number_alone, w.count) (on_bus_lem n σ q b (ltb-true b.phase 3 (and_right (leb b.part n) (ltb b.phase 3) w.bus)) (accepted n fs σ q))

  pub parts_by : parts_after σ q b ds ≡ if (accepted n fs σ q) (served q (state_of b) ds) ds
  unfolding parts_after
  parts_by = rw number_alone

  pub reply_by : reply σ q b ds ≡ if (accepted n fs σ q) (given_back n σ q (state_of b) ds) (refused_back q)
  unfolding reply
  reply_by = rw (number_alone, w.count)

  -- the bus state after it is sound, and stands for what the table says
  pub bus_kept : (sound_bus n (bus_after σ q b ds) ≡ true) × (state_of (bus_after σ q b ds) ≡ if (accepted n fs σ q) (next n σ q (state_of b)) (state_of b))
  bus_kept = rw bus_by (go (accepted n fs σ q))
    where
      named : Named n (next n σ q (state_of b))
      named = next_named n σ q (state_of b) (state_named n b w.bus)

      go : (a : Bool) → (sound_bus n (if a (bus_of (next n σ q (state_of b))) b) ≡ true)
          × (state_of (if a (bus_of (next n σ q (state_of b))) b) ≡ if a (next n σ q (state_of b)) (state_of b))
      go true = (bus_sound n (next n σ q (state_of b)) named, state_bus n (next n σ q (state_of b)) named)
      go false = (w.bus, refl)
