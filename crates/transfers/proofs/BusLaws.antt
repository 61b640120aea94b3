-- The outcome of a start, a byte or a stop on lent records, from the number that a pass over them gives.
--     moved_to, answered_to     an answer, with the records that are left, as an outcome
--     found_from                the number, as it is found
--     starts, stops             a start's and a stop's outcome
--     Reached, reached          a byte that reaches an open transfer
--     free_outcome, open_outcome         a byte's outcome: where it reaches none, and where it reaches one
-- Assumes nothing.
use Rattle.std.specs.Prelude.{None, Some}
use Rattle.ground.proofs.Names.{ℕ, zero, suc, ◌-◌, ◌≤◌, ◌<◌, arith, Bool, true, false, ◌&&◌, List, [], ◌∷◌, ◌≡◌, refl, ap, ◌∙◌, eqb, leb, ltb, length, get_or, set, take, eqb-true, leb-true, ltb-true, if, and_left, and_right, passed}
use Rattle.refusals.specs.Refusals.{sound_refusal, clash_refusal, address_refusal, family_refusal, first_of}
use Rattle.device.specs.PowerUp.{power_up}
use Rattle.device.specs.Families.{families}
use Rattle.device.specs.declared.Device.{Device}
use Rattle.calls.specs.CallRefusals.{families_below, all_sound}
use Rattle.calls.proofs.Accepted.{each_zero}
use Rattle.bus.specs.declared.Bus.{Bus}
use Rattle.bus.specs.Straps.{matched, distinct, seven_bits}
use Rattle.bus.specs.declared.Use.{Use}
use Rattle.bus.specs.declared.Use.TheVariants.{Command, Writing, Reading}
use Rattle.bus.specs.declared.State.{State}
use Rattle.bus.specs.declared.State.TheVariants.{Idle, Slave, Unmatched, Transfer}
use Rattle.bus.specs.States.{free_at, use_at, state_of, bus_of, sound_bus}
use Rattle.bus.specs.BusCalls.{start, put, get, stop}
use Rattle.bus.specs.BusRefusals.{wire_refusal}
use Rattle.bus.specs.BusServed.{given, asked, served, nobody, put_reply, asked_reply, given_back}
use Rattle.bus.specs.BusOutcome.{number, bus_after, parts_after, reply, BusOutcome, bus_outcome}
use Rattle.bus.proofs.States.{free_all, bus_state_lem}
use Rattle.bus.proofs.Bytes.{state_part, state_free}
use Rattle.pass.specs.Found.{row_refusal}
use Rattle.transfers.specs.Transfers.{refusal_from, moved, named, part_open, put_answer, write_free, read_free, read_open, byte_free, byte_open, byte_left, byte_call}
use Rattle.transfers.specs.declared.BusAnswer.{BusAnswer}
use Rattle.transfers.specs.declared.ByteAnswer.{ByteAnswer}
use Rattle.transfers.specs.declared.Byte.{Byte}
use Rattle.transfers.specs.declared.Byte.TheVariants.{Given, Asked}

abbrev pub moved_to : BusAnswer → List Device → BusOutcome
moved_to r ds = record { number = r.number; bus = r.bus; records = ds; back = [] }

abbrev pub answered_to : ByteAnswer → List Device → BusOutcome
answered_to r ds = record { number = r.number; bus = r.bus; records = ds; back = r.acknowledged ∷ r.«data» ∷ [] }

-- a part that may be there, as a number
named_some : {part : ℕ} (k : ℕ) → Some part ≡ named k → (part ≡ k) × (1 ≤ part)
named_some zero e = cc
named_some {part} (suc k) e = let s : part ≡ suc k = cc in (s, omega arith)

named_none : (k : ℕ) → None ≡ named k → k ≡ 0
named_none zero e = refl
named_none (suc k) e = cc

-- ---- the number
module _ (ds : List Device) (b : Bus) (σ : List ℕ) where
  abbrev n : ℕ
  n = length ds

  -- as it is found
  abbrev pub found_from : ℕ
  found_from = refusal_from (row_refusal ds) n b σ

  wire_from : wire_refusal n (families ds) (all_sound ds && sound_bus n b) σ ≡ found_from
  unfolding refusal_from
  wire_from = go (ltb 0 n && ltb n 17) (all_sound ds) (sound_bus n b) (distinct (take n σ)) (seven_bits (take n σ)) (families_below 1 (families ds))
    where
      go : (c s t d e f : Bool)
          → first_of (if c 0 1 ∷ sound_refusal (s && t) ∷ clash_refusal d ∷ address_refusal e ∷ family_refusal f ∷ [])
          ≡ first_of (if (eqb (first_of (if c 0 1 ∷ sound_refusal s ∷ family_refusal f ∷ [])) 14) 0 (first_of (if c 0 1 ∷ sound_refusal s ∷ family_refusal f ∷ []))
          ∷ sound_refusal t ∷ clash_refusal d ∷ address_refusal e ∷ first_of (if c 0 1 ∷ sound_refusal s ∷ family_refusal f ∷ []) ∷ [])
      go true true t d e true = refl
      go true true t d e false = refl
      go true false t d e f = refl
      go false s t d e f = refl

  -- what a number of 0 tells of the bus state
  found_sound : found_from ≡ 0 → (b.part ≤ n) × (b.phase < 3)
  unfolding refusal_from
  found_sound z =
      let each = each_zero (if (eqb (row_refusal ds) 14) 0 (row_refusal ds) ∷ sound_refusal (sound_bus n b) ∷ clash_refusal (distinct (take n σ)) ∷ address_refusal (seven_bits (take n σ)) ∷ row_refusal ds ∷ []) z in
      let t : sound_bus n b ≡ true = (passed (sound_bus n b) 0 6 (each 1)).0 in
      (leb-true b.part n (and_left (leb b.part n) (ltb b.phase 3) t), ltb-true b.phase 3 (and_right (leb b.part n) (ltb b.phase 3) t))

  -- ---- a start and a stop
  either : {A : Type 0} (t : Bool) (x : A) → if t x x ≡ x
  either true x = refl
  either false x = refl

  pub starts : bus_outcome σ start b ds ≡ moved_to (moved found_from b (bus_of Slave)) ds
  unfolding number bus_after parts_after reply
  starts = rw (wire_from, either (eqb found_from 0) ds, either {A = List ℕ} (eqb found_from 0) [])

  pub stops : bus_outcome σ stop b ds ≡ moved_to (moved found_from b (bus_of Idle)) ds
  unfolding number bus_after parts_after reply
  stops = rw (wire_from, either (eqb found_from 0) ds, either {A = List ℕ} (eqb found_from 0) [])

  -- ---- a byte
  abbrev reach : ℕ
  reach = part_open (row_refusal ds) n b σ

  -- one that reaches an open transfer is served, and its part is there
  pub record Reached (part : ℕ) : Type 0 where
    pub zero : found_from ≡ 0
    pub same : part ≡ b.part
    pub some : 1 ≤ b.part
    pub there : b.part ≤ n
    pub state : state_of b ≡ Transfer b.part (use_at b.phase)
    pub back : bus_of (state_of b) ≡ b

  pub reached : {part : ℕ} → Some part ≡ named reach → Reached part
  reached {part} h = go (eqb found_from 0) refl h
    where
      go : (t : Bool) → eqb found_from 0 ≡ t → Some part ≡ named (if t b.part 0) → Reached part
      go true e f =
          let z : found_from ≡ 0 = eqb-true found_from 0 e in
          let k : (part ≡ b.part) × (1 ≤ part) = named_some b.part f in
          let some : 1 ≤ b.part = omega (arith, k) in
          record { zero = z; same = k.0; some = some; there = (found_sound z).0; state = state_part b some; back = bus_state_lem b (found_sound z).1 }
      go false e f = cc

  -- one that is served and reaches none: no transfer is open
  free : reach ≡ 0 → found_from ≡ 0 → (state_of b ≡ free_at b.phase) × (bus_of (state_of b) ≡ b)
  free h z = (state_free b (rw z at h), bus_state_lem b (found_sound z).1)

  -- the answer to a byte has two numbers
  put_two : (m : ℕ) (s : State) → get_or (put_reply m s) 0 0 ∷ get_or (put_reply m s) 1 0 ∷ [] ≡ put_reply m s
  put_two m Idle = refl
  put_two zero Slave = refl
  put_two (suc m) Slave = refl
  put_two m Unmatched = refl
  put_two m (Transfer k Command) = refl
  put_two m (Transfer k Writing) = refl
  put_two m (Transfer k Reading) = refl

  asked_two : (u : Use) (d : Device) → get_or (asked_reply u d) 0 0 ∷ get_or (asked_reply u d) 1 0 ∷ [] ≡ asked_reply u d
  asked_two Command d = refl
  asked_two Writing d = refl
  asked_two Reading d = refl

  -- where no transfer is open, a byte changes no record
  put_free : (v p : ℕ) → served (put v) (free_at p) ds ≡ ds
  put_free v p = free_all (λ s. served (put v) s ds ≡ ds) refl refl refl p

  get_free : (p : ℕ) → (served get (free_at p) ds ≡ ds) × (given_back n σ get (free_at p) ds ≡ nobody)
  get_free p = free_all (λ s. (served get s ds ≡ ds) × (given_back n σ get s ds ≡ nobody)) (refl, refl) (refl, refl) (refl, refl) p

  write_free_lem : (v : ℕ) → reach ≡ 0 → bus_outcome σ (put v) b ds ≡ answered_to (write_free (row_refusal ds) n b σ v) ds
  unfolding number bus_after parts_after reply
  write_free_lem v h = go (eqb found_from 0) refl
    where
      go : (t : Bool) → eqb found_from 0 ≡ t → bus_outcome σ (put v) b ds ≡ answered_to (write_free (row_refusal ds) n b σ v) ds
      go true e =
          let z : found_from ≡ 0 = eqb-true found_from 0 e in
          let same : served (put v) (state_of b) ds ≡ ds = ap (λ (s : State). served (put v) s ds) (free h z).0 ∙ put_free v b.phase in
          rw (wire_from, z, put_two (matched n σ v) (state_of b), same)
      go false e = rw (wire_from, e)

  write_open_lem : (v : ℕ) {part : ℕ} → Reached part → bus_outcome σ (put v) b ds ≡ answered_to (put_answer 0 v b) (set ds (b.part - 1) (given (use_at b.phase) v (get_or ds (b.part - 1) power_up)))
  unfolding number bus_after parts_after reply
  write_open_lem v r = rw (wire_from, r.zero, put_two 0 (state_of b), r.state)

  read_free_lem : reach ≡ 0 → bus_outcome σ get b ds ≡ answered_to (read_free (row_refusal ds) n b σ) ds
  unfolding number bus_after parts_after reply
  read_free_lem h = go (eqb found_from 0) refl
    where
      go : (t : Bool) → eqb found_from 0 ≡ t → bus_outcome σ get b ds ≡ answered_to (read_free (row_refusal ds) n b σ) ds
      go true e =
          let z : found_from ≡ 0 = eqb-true found_from 0 e in
          rw (wire_from, z, (free h z).1, (free h z).0, (get_free b.phase).0, (get_free b.phase).1)
      go false e = rw (wire_from, e)

  read_open_lem : {part : ℕ} → Reached part → bus_outcome σ get b ds ≡ answered_to (read_open (get_or ds (b.part - 1) power_up) b) (set ds (b.part - 1) (asked (use_at b.phase) (get_or ds (b.part - 1) power_up)))
  unfolding number bus_after parts_after reply
  read_open_lem r = rw (wire_from, r.zero, r.back, asked_two (use_at b.phase) (get_or ds (b.part - 1) power_up), r.state)

  pub free_outcome : (y : Byte) → None ≡ named reach → bus_outcome σ (byte_call y) b ds ≡ answered_to (byte_free (row_refusal ds) n b σ y) ds
  free_outcome (Given v) h = write_free_lem v (named_none reach h)
  free_outcome Asked h = read_free_lem (named_none reach h)

  pub open_outcome : (y : Byte) {part : ℕ} → Reached part
      → bus_outcome σ (byte_call y) b ds ≡ answered_to (byte_open y (get_or ds (b.part - 1) power_up) b) (set ds (b.part - 1) (byte_left y (use_at b.phase) (get_or ds (b.part - 1) power_up)))
  open_outcome (Given v) r = write_open_lem v r
  open_outcome Asked r = read_open_lem r
