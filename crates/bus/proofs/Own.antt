-- What a served call leaves at part i's place, and gives back there: to its own calls, and to the others.
-- Assumes nothing.
use Rattle.ground.proofs.Names.{ℕ, zero, suc, ◌-◌, ◌≤◌, arith, not-suc-le-zero, true, false, true≢false, List, [], ◌∷◌, ◌≡◌, refl, sym, ap, eqb, length, take, get_or-set_same, get_or-set_other, get_or-take, eqb-true, eqb-false, eq-eqb, if}
use Rattle.device.specs.PowerUp.{power_up}
use Rattle.device.specs.declared.Device.{Device}
use Rattle.calls.specs.Calls.{give as give_chain, ask as ask_chain}
use Rattle.calls.specs.CallRefusals.{family_at, families_below}
use Rattle.calls.specs.Served.{record_of, with_record}
use Rattle.calls.proofs.Accepted.{zero_says, driver_there}
use Rattle.calls.proofs.Old.{below_at}
use Rattle.bus.specs.Straps.{strap_of, place_of, distinct, seven_bits}
use Rattle.bus.specs.declared.State.{State}
use Rattle.bus.specs.declared.State.TheVariants.{Idle, Slave, Unmatched, Transfer}
use Rattle.bus.specs.BusCalls.{BusCall, start, put, get, stop, give, ask}
use Rattle.bus.specs.BusRefusals.{wire_refusal}
use Rattle.bus.specs.BusServed.{slave_reply, served, given_back}
use Rattle.bus.specs.BusIsolation.{accepted, Turn, closed, ours, named, names, own, alone}
use Rattle.bus.proofs.Straps.{Served, seven_at}
use Rattle.bus.proofs.States.{Named}
use Rattle.bus.proofs.Accepted.{wire_served, wire_old}
use Rattle.bus.proofs.Turns.{turn_of, view, ours_says, own_match}

slave_reply_lem : (i : ℕ) → 1 ≤ i → slave_reply 1 ≡ slave_reply i
slave_reply_lem zero h = absurd (not-suc-le-zero h)
slave_reply_lem (suc k) h = refl

-- part i's family, alone
abbrev pub family_only : List ℕ → ℕ → List ℕ
family_only fs i = family_at fs i ∷ []

module _ (n i : ℕ) (fs σ rest : List ℕ) (sixteen : length σ ≡ 16) (h : 1 ≤ i) (g : i ≤ n) where
  -- the lone bus serves what the whole bus serves
  lone_wire : Served n σ → families_below 1 fs ≡ true → wire_refusal 1 (family_only fs i) true (strap_of σ i ∷ rest) ≡ 0
  unfolding place_of distinct seven_bits families_below
  lone_wire z o =
      rw (below_at 0 fs (i - 1) o, rw (get_or-take n σ (i - 1) 0 (omega arith)) at (seven_at (take n σ) z.seven (i - 1)))

  pub lone_accepted : (q : BusCall) (t : Turn) (qs : List BusCall) → accepted n fs σ q ≡ true → own n fs σ i t q qs ≡ true → accepted 1 (family_only fs i) (strap_of σ i ∷ rest) (alone q) ≡ true
  unfolding families_below
  lone_accepted start t qs a o = rw (lone_wire (wire_served n fs σ a) (wire_old n fs σ a))
  lone_accepted (put v) t qs a o = rw (lone_wire (wire_served n fs σ a) (wire_old n fs σ a))
  lone_accepted get t qs a o = rw (lone_wire (wire_served n fs σ a) (wire_old n fs σ a))
  lone_accepted stop t qs a o = rw (lone_wire (wire_served n fs σ a) (wire_old n fs σ a))
  lone_accepted (give j x) t qs a o =
      let p : j ≡ i = eqb-true j i o in
      let s = zero_says n fs true 0 (give_chain j x) (eqb-true _ 0 a) in
      rw (rw p at s.argument, below_at 1 fs (i - 1) s.known, rw p at s.has)
  lone_accepted (ask j x) t qs a o =
      let p : j ≡ i = eqb-true j i o in
      let s = zero_says n fs true 0 (ask_chain j x) (eqb-true _ 0 a) in
      rw (s.argument, below_at 1 fs (i - 1) s.known, rw p at s.has)

  -- the record of part i in the place of the lone one, and what is given back
  pub record Own (q : BusCall) (s ls : State) (ds : List Device) : Type 0 where
    pub left : served (alone q) ls (record_of ds i ∷ []) ≡ record_of (served q s ds) i ∷ []
    pub same : given_back 1 (strap_of σ i ∷ rest) (alone q) ls (record_of ds i ∷ []) ≡ given_back n σ q s ds

  module _ (ds : List Device) (l : length ds ≡ n) where
    -- part i's record replaced
    set_own : (d : Device) → d ∷ [] ≡ record_of (with_record ds i d) i ∷ []
    set_own d = ap (λ (x : Device). x ∷ []) (sym (get_or-set_same ds (i - 1) d power_up (omega arith)))

    put_own : (v : ℕ) (s : State) (qs : List BusCall) → accepted n fs σ (put v) ≡ true → names n fs σ i (turn_of i s) (put v ∷ qs) ≡ true → Own (put v) s (view i s) ds
    unfolding named
    put_own v Idle qs a e = absurd (true≢false (sym e))
    put_own v Slave qs a e =
        let m = own_match n i fs σ rest sixteen h g v a (rw a at e) in
        record { left = refl; same = rw (m.0, m.1) (slave_reply_lem i h) }
    put_own v Unmatched qs a e = absurd (true≢false (sym e))
    put_own v (Transfer k u) qs a e =
        let p : k ≡ i = ours_says n fs σ k i (put v ∷ qs) e in
        record { left = rw (p, eq-eqb i i refl) (set_own _); same = rw (p, eq-eqb i i refl) }

    get_own : (s : State) (qs : List BusCall) → names n fs σ i (turn_of i s) (get ∷ qs) ≡ true → Own get s (view i s) ds
    get_own Idle qs e = absurd (true≢false (sym e))
    get_own Slave qs e = record { left = refl; same = refl }
    get_own Unmatched qs e = absurd (true≢false (sym e))
    get_own (Transfer k u) qs e =
        let p : k ≡ i = ours_says n fs σ k i (get ∷ qs) e in
        record { left = rw (p, eq-eqb i i refl) (set_own _); same = rw (p, eq-eqb i i refl) }

    -- part i's own call, on the lone bus in part i's view of the state while the transaction is part i's
    pub call_own : (q : BusCall) (s ls : State) (qs : List BusCall) → (names n fs σ i (turn_of i s) (q ∷ qs) ≡ true → ls ≡ view i s)
        → accepted n fs σ q ≡ true → own n fs σ i (turn_of i s) q qs ≡ true → Own q s ls ds
    call_own start s ls qs w a o = record { left = refl; same = refl }
    call_own (put v) s ls qs w a o = rw (w o) (put_own v s qs a o)
    call_own get s ls qs w a o = rw (w o) (get_own s qs o)
    call_own stop s ls qs w a o = record { left = refl; same = refl }
    call_own (give j x) s ls qs w a o = let p : j ≡ i = eqb-true j i o in record { left = rw p (set_own _); same = refl }
    call_own (ask j x) s ls qs w a o = let p : j ≡ i = eqb-true j i o in record { left = refl; same = rw p }

    -- any other leaves part i's record as it is
    set_other : (k : ℕ) (d : Device) → 1 ≤ k → (k ≡ i → ⊥) → record_of (with_record ds k d) i ≡ record_of ds i
    set_other k d f p = get_or-set_other ds (k - 1) (i - 1) d power_up (λ e. p (omega arith))

    ours_not : (k : ℕ) (qs : List BusCall) → names n fs σ i (if (eqb k i) ours closed) qs ≡ false → k ≡ i → ⊥
    ours_not k qs e p = true≢false (rw (eq-eqb k i p) at e)

    pub call_other : (q : BusCall) (s : State) (qs : List BusCall) → Named n s → accepted n fs σ q ≡ true → own n fs σ i (turn_of i s) q qs ≡ false
        → record_of (served q s ds) i ≡ record_of ds i
    call_other start s qs m a o = refl
    call_other (put v) Idle qs m a o = refl
    call_other (put v) Slave qs m a o = refl
    call_other (put v) Unmatched qs m a o = refl
    call_other (put v) (Transfer k u) qs m a o = set_other k _ m.0 (ours_not k (put v ∷ qs) o)
    call_other get Idle qs m a o = refl
    call_other get Slave qs m a o = refl
    call_other get Unmatched qs m a o = refl
    call_other get (Transfer k u) qs m a o = set_other k _ m.0 (ours_not k (get ∷ qs) o)
    call_other stop s qs m a o = refl
    call_other (give j x) s qs m a o =
        set_other j _ (driver_there n j (zero_says n fs true 0 (give_chain j x) (eqb-true _ 0 a)).named).0 (eqb-false j i o)
    call_other (ask j x) s qs m a o = refl
