-- Bus states and what they stand for.
-- Assumes nothing.
use Rattle.ground.proofs.Names.{ℕ, zero, suc, ◌≤◌, ◌<◌, arith, Bool, true, false, List, ◌≡◌, refl, sym, ap, ◌∙◌, eqb, leb, ltb, eqb-true, eqb-false, ne_eqb, leb-true, le-leb, if, and_left}
use Rattle.bus.specs.declared.Bus.{Bus}
use Rattle.bus.specs.Straps.{matched}
use Rattle.bus.specs.declared.Use.{Use}
use Rattle.bus.specs.declared.Use.TheVariants.{Command, Writing, Reading}
use Rattle.bus.specs.declared.State.{State}
use Rattle.bus.specs.declared.State.TheVariants.{Idle, Slave, Unmatched, Transfer}
use Rattle.bus.specs.States.{free_at, use_at, state_of, phase_of, bus_of, sound_bus}
use Rattle.bus.specs.BusCalls.{BusCall, start, put, get, stop, give, ask}
use Rattle.bus.specs.BusServed.{opened, next}
use Rattle.bus.proofs.Straps.{match_le}

-- a transfer is of a part that is there
abbrev pub Named : ℕ → State → Type 0
Named n Idle = Unit {0}
Named n Slave = Unit {0}
Named n Unmatched = Unit {0}
Named n (Transfer k u) = (1 ≤ k) × (k ≤ n)

-- what holds of the three states in which no part is named
pub free_all : (P : State → Type 0) → P Idle → P Slave → P Unmatched → (p : ℕ) → P (free_at p)
free_all P a b c p = go (eqb p 0) (eqb p 1)
  where
    go : (t t' : Bool) → P (if t Idle (if t' Slave Unmatched))
    go true t' = a
    go false true = b
    go false false = c

-- what a sound bus state stands for
pub state_named : (n : ℕ) (b : Bus) → sound_bus n b ≡ true → Named n (state_of b)
state_named n b e = go (eqb b.part 0) refl
  where
    go : (t : Bool) → eqb b.part 0 ≡ t → Named n (if t (free_at b.phase) (Transfer b.part (use_at b.phase)))
    go true t = free_all (Named n) tt tt tt b.phase
    go false t =
        let z : b.part ≡ 0 → ⊥ = eqb-false b.part 0 t in
        (omega arith, leb-true b.part n (and_left (leb b.part n) (ltb b.phase 3) e))

use_phase : (u : Use) → (use_at (phase_of u) ≡ u) × (ltb (phase_of u) 3 ≡ true)
use_phase Command = (refl, refl)
use_phase Writing = (refl, refl)
use_phase Reading = (refl, refl)

-- there and back
bus_at : (k p : ℕ) → p < 3 → (bus_of (free_at p) ≡ record { part = 0; phase = p }) × (bus_of (Transfer k (use_at p)) ≡ record { part = k; phase = p })
bus_at k zero h = (refl, refl)
bus_at k (suc zero) h = (refl, refl)
bus_at k (suc (suc zero)) h = (refl, refl)
bus_at k (suc (suc (suc p))) h = absurd (omega arith)

pub bus_state_lem : (b : Bus) → b.phase < 3 → bus_of (state_of b) ≡ b
bus_state_lem b h = go (eqb b.part 0) refl
  where
    go : (t : Bool) → eqb b.part 0 ≡ t → bus_of (if t (free_at b.phase) (Transfer b.part (use_at b.phase))) ≡ b
    go true e = (bus_at 0 b.phase h).0 ∙ ap (λ (k : ℕ). record { part = k; phase = b.phase }) (sym (eqb-true b.part 0 e))
    go false e = (bus_at b.part b.phase h).1

pub state_bus : (n : ℕ) (s : State) → Named n s → state_of (bus_of s) ≡ s
state_bus n Idle h = refl
state_bus n Slave h = refl
state_bus n Unmatched h = refl
state_bus n (Transfer k u) h = rw (ne_eqb k 0 (λ e. omega arith), (use_phase u).0)

pub bus_sound : (n : ℕ) (s : State) → Named n s → sound_bus n (bus_of s) ≡ true
bus_sound n Idle h = rw (le-leb 0 n (omega arith))
bus_sound n Slave h = rw (le-leb 0 n (omega arith))
bus_sound n Unmatched h = rw (le-leb 0 n (omega arith))
bus_sound n (Transfer k u) h = rw (le-leb k n h.1, (use_phase u).1)

opened_named : (n m v : ℕ) → m ≤ n → Named n (opened m v)
opened_named n zero v h = tt
opened_named n (suc m) v h = (omega arith, h)

-- a served call leaves no transfer of a part that is not there
pub next_named : (n : ℕ) (σ : List ℕ) (q : BusCall) (s : State) → Named n s → Named n (next n σ q s)
next_named n σ start s h = tt
next_named n σ (put v) Idle h = tt
next_named n σ (put v) Slave h = opened_named n (matched n σ v) v (match_le n σ v)
next_named n σ (put v) Unmatched h = tt
next_named n σ (put v) (Transfer k u) h = h
next_named n σ get s h = h
next_named n σ stop s h = tt
next_named n σ (give j x) s h = h
next_named n σ (ask j x) s h = h
