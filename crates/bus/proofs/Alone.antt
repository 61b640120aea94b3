-- The proof of `specs/BusIsolation.antt`'s theorem: the invariant, one step, and induction on the list.
-- Assumes nothing.
use Rattle.ground.proofs.Names.{ℕ, ◌-◌, ◌≤◌, Bool, true, false, true≢false, List, [], ◌∷◌, map, ◌≡◌, refl, sym, ap, ◌∙◌, length, eqb-true, if, and_left, and_right}
use Rattle.device.specs.Families.{families}
use Rattle.device.specs.declared.Device.{Device}
use Rattle.calls.specs.CallRefusals.{all_sound}
use Rattle.calls.specs.Served.{record_of}
use Rattle.calls.proofs.Records.{sound_at, family_at_lem}
use Rattle.bus.specs.declared.Bus.{Bus}
use Rattle.bus.specs.Straps.{strap_of}
use Rattle.bus.specs.declared.State.{State}
use Rattle.bus.specs.States.{state_of}
use Rattle.bus.specs.BusCalls.{BusCall, start, put, get, stop, give, ask}
use Rattle.bus.specs.BusOutcome.{number, bus_after, parts_after, reply}
use Rattle.bus.specs.BusServed.{next}
use Rattle.bus.specs.BusLists.{parts_all, numbers, replies}
use Rattle.bus.specs.BusIsolation.{refusal_alone, accepted, Turn, turn_next, follows, named, names, own, heard, alone, mine, own_replies, view_of, BusIsolation}
use Rattle.bus.proofs.States.{state_named}
use Rattle.bus.proofs.Accepted.{Sound, number_alone, parts_by, reply_by, bus_kept}
use Rattle.bus.proofs.Sound.{sound_after, sound_all}
use Rattle.bus.proofs.Turns.{turn_of, view, turn_state, view_state, view_sound, turn_follows, names_skip, put_names, put_view}
use Rattle.bus.proofs.Own.{family_only, lone_accepted, call_own, call_other}

module _ (n i : ℕ) (fs σ rest : List ℕ) (sixteen : length σ ≡ 16) (h : 1 ≤ i) (g : i ≤ n) where
  -- while the open transaction is part i's, the lone bus is in part i's view of the bus state
  abbrev Seen : Turn → List BusCall → State → State → Type 0
  Seen t qs s ls = names n fs σ i t qs ≡ true → ls ≡ view i s

  -- an accepted call of part i's, and another
  seen_own : (q : BusCall) (qs : List BusCall) (s ls : State) → accepted n fs σ q ≡ true → Seen (turn_of i s) (q ∷ qs) s ls
      → Seen (turn_next σ i q (turn_of i s)) qs (next n σ q s) (next 1 (strap_of σ i ∷ rest) (alone q) ls)
  unfolding named
  seen_own start qs s ls a w e = refl
  seen_own (put v) qs s ls a w e = let e' = put_names n i fs σ (turn_of i s) v qs a ∙ e in rw (w e') (put_view n i fs σ rest sixteen h g v s qs a e')
  seen_own get qs s ls a w e = w (names_skip n i fs σ (turn_of i s) get qs (rw a) ∙ e)
  seen_own stop qs s ls a w e = refl
  seen_own (give j x) qs s ls a w e = w (names_skip n i fs σ (turn_of i s) (give j x) qs (rw a) ∙ e)
  seen_own (ask j x) qs s ls a w e = w (names_skip n i fs σ (turn_of i s) (ask j x) qs (rw a) ∙ e)

  seen_other : (q : BusCall) (qs : List BusCall) (s ls : State) → accepted n fs σ q ≡ true → own n fs σ i (turn_of i s) q qs ≡ false
      → Seen (turn_of i s) (q ∷ qs) s ls → Seen (turn_next σ i q (turn_of i s)) qs (next n σ q s) ls
  unfolding named
  seen_other start qs s ls a o w e = absurd (true≢false (sym e ∙ o))
  seen_other (put v) qs s ls a o w e = absurd (true≢false (sym (put_names n i fs σ (turn_of i s) v qs a ∙ e) ∙ o))
  seen_other get qs s ls a o w e = absurd (true≢false (sym (names_skip n i fs σ (turn_of i s) get qs (rw a) ∙ e) ∙ o))
  seen_other stop qs s ls a o w e = absurd (true≢false (sym e))
  seen_other (give j x) qs s ls a o w e = w (names_skip n i fs σ (turn_of i s) (give j x) qs (rw a) ∙ e)
  seen_other (ask j x) qs s ls a o w e = w (names_skip n i fs σ (turn_of i s) (ask j x) qs (rw a) ∙ e)

  -- the invariant, before a list
  record At (qs : List BusCall) (b lb : Bus) (ds : List Device) : Type 0 where
    whole : Sound n fs b ds
    lone : Sound 1 (family_only fs i) lb (record_of ds i ∷ [])
    seen : Seen (turn_of i (state_of b)) qs (state_of b) (state_of lb)

  module _ (q : BusCall) (qs : List BusCall) (b lb : Bus) (ds : List Device) (now : At (q ∷ qs) b lb ds) where
    -- the state and the turn after the call
    state_now : accepted n fs σ q ≡ true → state_of (bus_after σ q b ds) ≡ next n σ q (state_of b)
    state_now a = (bus_kept σ q now.whole).1 ∙ rw a

    turn_now : turn_of i (state_of (bus_after σ q b ds)) ≡ follows n fs σ i q (turn_of i (state_of b))
    turn_now = rw (bus_kept σ q now.whole).1 (go (accepted n fs σ q) refl (state_of b))
      where
        go : (x : Bool) → accepted n fs σ q ≡ x → (s : State) → turn_of i (if x (next n σ q s) s) ≡ if x (turn_next σ i q (turn_of i s)) (turn_of i s)
        go true a s = turn_follows n i fs σ rest sixteen h g q s a
        go false a s = refl

    -- the lone part is given the call
    record Heard : Type 0 where
      none : number (strap_of σ i ∷ rest) (alone q) lb (record_of ds i ∷ []) ≡ 0
      left : parts_after (strap_of σ i ∷ rest) (alone q) lb (record_of ds i ∷ []) ≡ record_of (parts_after σ q b ds) i ∷ []
      same : reply (strap_of σ i ∷ rest) (alone q) lb (record_of ds i ∷ []) ≡ reply σ q b ds
      then : At qs (bus_after σ q b ds) (bus_after (strap_of σ i ∷ rest) (alone q) lb (record_of ds i ∷ [])) (parts_after σ q b ds)

    step_heard : accepted n fs σ q ≡ true → own n fs σ i (turn_of i (state_of b)) q qs ≡ true → Heard
    step_heard a o =
        let lσ = strap_of σ i ∷ rest in
        let la = lone_accepted n i fs σ rest sixteen h g q (turn_of i (state_of b)) qs a o in
        let own = call_own n i fs σ rest sixteen h g ds now.whole.count q (state_of b) (state_of lb) qs now.seen a o in
        let left : parts_after lσ (alone q) lb (record_of ds i ∷ []) ≡ record_of (parts_after σ q b ds) i ∷ [] =
        rw (parts_by lσ (alone q) now.lone, parts_by σ q now.whole, la, a) own.left in
        record {
          none = number_alone lσ (alone q) now.lone ∙ eqb-true _ 0 la;
          left = left;
          same = rw (reply_by lσ (alone q) now.lone, reply_by σ q now.whole, la, a) own.same;
          then =
              record {
                whole = sound_after σ q now.whole;
                lone = rw left at (sound_after lσ (alone q) now.lone);
                seen =
                    rw (turn_now, a, state_now a, (bus_kept lσ (alone q) now.lone).1, la)
                    (seen_own q qs (state_of b) (state_of lb) a now.seen);
              };
        }

    -- it is not
    record Passed : Type 0 where
      left : record_of (parts_after σ q b ds) i ≡ record_of ds i
      seen : Seen (turn_of i (state_of (bus_after σ q b ds))) qs (state_of (bus_after σ q b ds)) (state_of lb)

    step_passed : heard n fs σ i (turn_of i (state_of b)) q qs ≡ false → Passed
    unfolding named
    step_passed e = go (accepted n fs σ q) refl
      where
        go : (x : Bool) → accepted n fs σ q ≡ x → Passed
        go true a =
            let o = rw a at e in
            let m = state_named n b now.whole.bus in
            record {
              left = rw (parts_by σ q now.whole, a) (call_other n i fs σ rest sixteen h g ds now.whole.count q (state_of b) qs m a o);
              seen = rw (turn_now, a, state_now a) (seen_other q qs (state_of b) (state_of lb) a o now.seen);
            }
        go false a =
            record {
              left = rw (parts_by σ q now.whole, a);
              seen = rw (turn_now, (bus_kept σ q now.whole).1, a) (λ x. now.seen (names_skip n i fs σ (turn_of i (state_of b)) q qs (rw a) ∙ x));
            }

  -- what is told of a list
  record Told (t : Turn) (qs : List BusCall) (b lb : Bus) (ds : List Device) : Type 0 where
    numbered : numbers σ qs b ds ≡ map (refusal_alone n fs σ) qs
    zeros : numbers (strap_of σ i ∷ rest) (mine n fs σ i t qs) lb (record_of ds i ∷ []) ≡ map (λ (q : BusCall). 0) (mine n fs σ i t qs)
    left : record_of (parts_all σ qs b ds) i ≡ record_of (parts_all (strap_of σ i ∷ rest) (mine n fs σ i t qs) lb (record_of ds i ∷ [])) 1
    back : own_replies n fs σ i t qs (replies σ qs b ds) ≡ replies (strap_of σ i ∷ rest) (mine n fs σ i t qs) lb (record_of ds i ∷ [])

  -- by induction on the list
  told_more : (q : BusCall) (qs : List BusCall) (b lb : Bus) (ds : List Device) → At (q ∷ qs) b lb ds
      → ((b lb : Bus) (ds : List Device) → At qs b lb ds → Told (turn_of i (state_of b)) qs b lb ds)
      → (x : Bool) → heard n fs σ i (turn_of i (state_of b)) q qs ≡ x → Told (turn_of i (state_of b)) (q ∷ qs) b lb ds
  unfolding numbers parts_all replies mine own_replies
  told_more q qs b lb ds now more true e =
      let t = turn_of i (state_of b) in
      let f = step_heard q qs b lb ds now (and_left (accepted n fs σ q) (own n fs σ i t q qs) e) (and_right (accepted n fs σ q) (own n fs σ i t q qs) e) in
      let r = rw (turn_now q qs b lb ds now) at (more _ _ _ f.then) in
      record {
        numbered = rw (number_alone σ q now.whole, r.numbered);
        zeros = rw (e, f.none, f.left, r.zeros);
        left = rw e (rw (← f.left) at r.left);
        back = rw (e, f.same, f.left, r.back);
      }
  told_more q qs b lb ds now more false e =
      let f = step_passed q qs b lb ds now e in
      let then : At qs (bus_after σ q b ds) lb (parts_after σ q b ds) =
      record { whole = sound_after σ q now.whole; lone = rw f.left now.lone; seen = f.seen } in
      let r = rw (turn_now q qs b lb ds now) at (more _ _ _ then) in
      record {
        numbered = rw (number_alone σ q now.whole, r.numbered);
        zeros = rw (e, ← f.left, r.zeros);
        left = rw (e, ← f.left, r.left);
        back = rw (e, ← f.left, r.back);
      }

  told : (qs : List BusCall) (b lb : Bus) (ds : List Device) → At qs b lb ds → Told (turn_of i (state_of b)) qs b lb ds
  unfolding numbers parts_all replies mine own_replies
  told [] b lb ds now = record { numbered = refl; zeros = refl; left = refl; back = refl }
  told (q ∷ qs) b lb ds now = told_more q qs b lb ds now (told qs) (heard n fs σ i (turn_of i (state_of b)) q qs) refl

pub isolated : BusIsolation
unfolding all_sound
isolated σ rest qs b ds sixteen s w i h g =
    let n = length ds in
    let whole : Sound n (families ds) b ds = record { count = refl; kinds = refl; records = s; bus = w } in
    let lone : Sound 1 (family_only (families ds) i) (view_of i b) (record_of ds i ∷ []) = record { count = refl; kinds = ap (λ (f : ℕ). f ∷ []) (sym (family_at_lem ds i)); records = rw (sound_at ds s (i - 1)); bus = view_sound n i b w } in
    let t = rw (← turn_state i b) at (told n i (families ds) σ rest sixteen h g qs b (view_of i b) ds (record { whole = whole; lone = lone; seen = λ e. view_state i b })) in
    record {
      same_numbers = t.numbered;
      lone_numbers = t.zeros;
      same_record = t.left;
      same_answers = t.back;
      same_outputs = λ x a. reply_by σ (ask i x) (sound_all σ qs whole) ∙ rw (a, t.left);
    }
