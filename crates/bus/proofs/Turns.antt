-- Part i's view of the bus: the tracker follows the bus states, and the lone bus does what the whole bus does in part i's transactions.
-- Assumes nothing.
use Rattle.ground.proofs.Names.{ℕ, zero, suc, ◌≤◌, arith, not-suc-le-zero, Bool, true, false, true≢false, List, ◌∷◌, ◌≡◌, refl, sym, ◌∙◌, eqb, leb, ltb, length, eqb-true, eq-eqb, ne_eqb, if, and_right}
use Rattle.bus.specs.declared.Bus.{Bus}
use Rattle.bus.specs.Straps.{strap_of, matched}
use Rattle.bus.specs.declared.State.{State}
use Rattle.bus.specs.declared.State.TheVariants.{Idle, Slave, Unmatched, Transfer}
use Rattle.bus.specs.States.{free_at, use_at, state_of, sound_bus}
use Rattle.bus.specs.BusCalls.{BusCall, start, put, get, stop, give, ask}
use Rattle.bus.specs.BusServed.{opened, next}
use Rattle.bus.specs.BusIsolation.{accepted, Turn, closed, fresh, ours, turn_at, names_part, turn_next, named, names, view_of}
use Rattle.bus.proofs.Straps.{match_own, matches, match_alone}
use Rattle.bus.proofs.States.{free_all}
use Rattle.bus.proofs.Accepted.{wire_served}

-- what a state is to part i, and to the lone bus
abbrev pub turn_of : ℕ → State → Turn
turn_of i Idle = closed
turn_of i Slave = fresh
turn_of i Unmatched = closed
turn_of i (Transfer k u) = if (eqb k i) ours closed

abbrev pub view : ℕ → State → State
view i Idle = Idle
view i Slave = Slave
view i Unmatched = Unmatched
view i (Transfer k u) = if (eqb k i) (Transfer 1 u) Idle

-- a bus state's turn and view are those of what it stands for
turn_free : (i p : ℕ) → if (eqb p 1) fresh closed ≡ turn_of i (free_at p)
turn_free i p = go (eqb p 0) refl
  where
    go : (t : Bool) → eqb p 0 ≡ t → if (eqb p 1) fresh closed ≡ turn_of i (if t Idle (if (eqb p 1) Slave Unmatched))
    go true e = rw (eqb-true p 0 e)
    go false e = elim (eqb p 1) as (λ t. if t fresh closed ≡ turn_of i (if t Slave Unmatched)) [ true ↦ refl | false ↦ refl ]

pub turn_state : (i : ℕ) (b : Bus) → turn_at i b ≡ turn_of i (state_of b)
turn_state i b = go (eqb b.part 0)
  where
    go : (t : Bool) → if t (if (eqb b.phase 1) fresh closed) (if (eqb b.part i) ours closed) ≡ turn_of i (if t (free_at b.phase) (Transfer b.part (use_at b.phase)))
    go true = turn_free i b.phase
    go false = refl

pub view_state : (i : ℕ) (b : Bus) → state_of (view_of i b) ≡ view i (state_of b)
view_state i b = go (eqb b.part 0) refl
  where
    inner : (t : Bool) → state_of (if t (record { part = 1; phase = b.phase }) (record { part = 0; phase = 0 })) ≡ if t (Transfer 1 (use_at b.phase)) Idle
    inner true = refl
    inner false = refl

    go : (t : Bool) → eqb b.part 0 ≡ t
        → state_of (if t b (if (eqb b.part i) (record { part = 1; phase = b.phase }) (record { part = 0; phase = 0 })))
        ≡ view i (if t (free_at b.phase) (Transfer b.part (use_at b.phase)))
    go true e = rw e (free_all (λ s. s ≡ view i s) refl refl refl b.phase)
    go false e = inner (eqb b.part i)

-- the lone bus's state is sound
pub view_sound : (n i : ℕ) (b : Bus) → sound_bus n b ≡ true → sound_bus 1 (view_of i b) ≡ true
view_sound n i b e = go (eqb b.part 0) refl
  where
    small : ltb b.phase 3 ≡ true
    small = and_right (leb b.part n) (ltb b.phase 3) e

    inner : (t : Bool) → sound_bus 1 (if t (record { part = 1; phase = b.phase }) (record { part = 0; phase = 0 })) ≡ true
    inner true = small
    inner false = refl

    go : (t : Bool) → eqb b.part 0 ≡ t
        → sound_bus 1 (if t b (if (eqb b.part i) (record { part = 1; phase = b.phase }) (record { part = 0; phase = 0 }))) ≡ true
    go true t = rw (eqb-true b.part 0 t, small)
    go false t = inner (eqb b.part i)

-- a transaction that is part i's is named by it
pub ours_says : (n : ℕ) (fs σ : List ℕ) (k i : ℕ) (qs : List BusCall) → names n fs σ i (if (eqb k i) ours closed) qs ≡ true → k ≡ i
ours_says n fs σ k i qs = go (eqb k i) refl
  where
    go : (t : Bool) → eqb k i ≡ t → names n fs σ i (if t ours closed) qs ≡ true → k ≡ i
    go true t e = eqb-true k i t
    go false t e = absurd (true≢false (sym e))

-- a call that no transaction turns on is skipped
pub names_skip : (n i : ℕ) (fs σ : List ℕ) (t : Turn) (q : BusCall) (qs : List BusCall) → named n fs σ i (q ∷ qs) ≡ named n fs σ i qs
    → names n fs σ i t (q ∷ qs) ≡ names n fs σ i t qs
names_skip n i fs σ closed q qs e = refl
names_skip n i fs σ fresh q qs e = e
names_skip n i fs σ ours q qs e = refl

-- a byte given, served, leaves whose the transaction is
pub put_names : (n i : ℕ) (fs σ : List ℕ) (t : Turn) (v : ℕ) (qs : List BusCall) → accepted n fs σ (put v) ≡ true
    → names n fs σ i t (put v ∷ qs) ≡ names n fs σ i (turn_next σ i (put v) t) qs
unfolding named
put_names n i fs σ closed v qs a = refl
put_names n i fs σ fresh v qs a =
    rw a (elim (names_part σ i v) as (λ t. t ≡ names n fs σ i (if t ours closed) qs) [ true ↦ refl | false ↦ refl ])
put_names n i fs σ ours v qs a = refl

-- a slave byte, to part i and to the lone bus
opened_turn : (i m v : ℕ) → 1 ≤ i → turn_of i (opened m v) ≡ if (eqb m i) ours closed
opened_turn i zero v h = rw (ne_eqb 0 i (λ e. omega arith))
opened_turn i (suc m) v h = refl

opened_view : (i v : ℕ) → 1 ≤ i → opened 1 v ≡ view i (opened i v)
opened_view zero v h = absurd (not-suc-le-zero h)
opened_view (suc k) v h = rw (eq-eqb (suc k) (suc k) refl)

module _ (n i : ℕ) (fs σ rest : List ℕ) (sixteen : length σ ≡ 16) (h : 1 ≤ i) (g : i ≤ n) where
  -- a slave byte that is part i's is matched by part i, and on the lone bus
  pub own_match : (v : ℕ) → accepted n fs σ (put v) ≡ true → names_part σ i v ≡ true → (matched n σ v ≡ i) × (matched 1 (strap_of σ i ∷ rest) v ≡ 1)
  own_match v a e = (matches sixteen (wire_served n fs σ a) v i h g (eqb-true _ _ e), match_alone (strap_of σ i) v rest ∙ rw e)

  -- the tracker follows the table
  pub turn_follows : (q : BusCall) (s : State) → accepted n fs σ q ≡ true → turn_of i (next n σ q s) ≡ turn_next σ i q (turn_of i s)
  turn_follows start s a = refl
  turn_follows (put v) Idle a = refl
  turn_follows (put v) Slave a = opened_turn i (matched n σ v) v h ∙ rw (match_own sixteen (wire_served n fs σ a) v i h g)
  turn_follows (put v) Unmatched a = refl
  turn_follows (put v) (Transfer k u) a =
      elim (eqb k i) as (λ t. if t ours closed ≡ turn_next σ i (put v) (if t ours closed)) [ true ↦ refl | false ↦ refl ]
  turn_follows get s a = refl
  turn_follows stop s a = refl
  turn_follows (give j x) s a = refl
  turn_follows (ask j x) s a = refl

  -- a byte given, served: the lone bus goes on as the whole bus
  pub put_view : (v : ℕ) (s : State) (qs : List BusCall) → accepted n fs σ (put v) ≡ true → names n fs σ i (turn_of i s) (put v ∷ qs) ≡ true
      → next 1 (strap_of σ i ∷ rest) (put v) (view i s) ≡ view i (next n σ (put v) s)
  unfolding named
  put_view v Idle qs a e = absurd (true≢false (sym e))
  put_view v Slave qs a e =
      let m = own_match v a (rw a at e) in
      rw (m.0, m.1) (opened_view i v h)
  put_view v Unmatched qs a e = absurd (true≢false (sym e))
  put_view v (Transfer k u) qs a e = rw (ours_says n fs σ k i (put v ∷ qs) e, eq-eqb i i refl)
