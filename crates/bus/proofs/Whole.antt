-- Whole transactions: the proof of `specs/Transactions.antt`'s theorem.
-- Assumes nothing.
use Rattle.ground.proofs.Names.{ℕ, zero, suc, ◌+◌, ◌*◌, ◌-◌, ◌/◌, ◌%◌, ◌≤◌, min, arith, add-zero, mod-lt, Bool, true, false, List, [], ◌∷◌, ◌++◌, map, ◌≡◌, refl, ◌∙◌, ltb, length, replicate, length-set, map-set_same, get_or-set_same, set-set, set-get_or, eqb-true, eq-eqb, ne_eqb, lt-ltb, ltb-true, ltb-false, if, odd}
use Rattle.words.specs.Addresses.{written_at, read_at}
use Rattle.registers.specs.Registers.{written, after_read}
use Rattle.device.specs.PowerUp.{power_up}
use Rattle.device.specs.Record.{with_registers, with_command}
use Rattle.device.specs.Families.{families, sound_record}
use Rattle.device.specs.declared.Device.{Device}
use Rattle.device.proofs.Sound.{command_sound}
use Rattle.device.proofs.Families.{both_families}
use Rattle.calls.specs.CallRefusals.{families_below, all_sound}
use Rattle.calls.specs.Served.{record_of, with_record}
use Rattle.calls.proofs.Records.{sound_at, sound_set, family_at_lem}
use Rattle.calls.proofs.Old.{below_at}
use Rattle.bus.specs.declared.Bus.{Bus}
use Rattle.bus.specs.Straps.{strap_of}
use Rattle.bus.specs.declared.Use.{Use}
use Rattle.bus.specs.declared.Use.TheVariants.{Command, Writing, Reading}
use Rattle.bus.specs.declared.State.{State}
use Rattle.bus.specs.declared.State.TheVariants.{Idle, Slave, Transfer}
use Rattle.bus.specs.States.{state_of, bus_of, sound_bus}
use Rattle.device.specs.TwoWire.{next_address, commanded, received, sent_data, sent}
use Rattle.bus.specs.BusCalls.{BusCall, start, put, get, stop}
use Rattle.bus.specs.BusRefusals.{wire_refusal}
use Rattle.bus.specs.BusServed.{next, served, given_back}
use Rattle.bus.specs.BusOutcome.{bus_after, parts_after}
use Rattle.bus.specs.BusLists.{bus_all, parts_all, numbers, replies}
use Rattle.bus.specs.BusIsolation.{refusal_alone, accepted}
use Rattle.bus.specs.Transactions.{stored, read_left, read_data, Ran, Transaction, Transactions}
use Rattle.bus.proofs.Straps.{Served, matches}
use Rattle.bus.proofs.States.{state_bus, bus_sound}
use Rattle.bus.proofs.Accepted.{Sound, number_alone, bus_by, parts_by, reply_by}
use Rattle.bus.proofs.Bytes.{slave_taken}

-- no call more
run_none : (σ : List ℕ) (b : Bus) (ds : List Device) → Ran σ [] b ds b ds []
unfolding bus_all parts_all numbers replies
run_none σ b ds = record { all_served = refl; bus_left = refl; parts_left = refl; given_back = refl }

-- the address steps to 127 and stays there
next_min : (a : ℕ) → next_address (min a 127) ≡ min (a + 1) 127
next_min a = go (ltb (min a 127) 127) refl
  where
    go : (t : Bool) → ltb (min a 127) 127 ≡ t → if t (min a 127 + 1) 127 ≡ min (a + 1) 127
    go true t = omega (arith, ltb-true (min a 127) 127 t)
    go false t = omega (arith, ltb-false (min a 127) 127 t)

-- a sound record of the old family has a small command address
old_command : (d : Device) → ltb d.family 1 ≡ true → sound_record d ≡ true → ltb d.command 128 ≡ true
unfolding sound_record
old_command d o s = let z : d.family ≡ 0 = omega (arith, ltb-true d.family 1 o) in command_sound d (rw (eq-eqb d.family 0 z) at s)

module _ (n k : ℕ) (fs σ : List ℕ) (sixteen : length σ ≡ 16) (h : 1 ≤ k) (g : k ≤ n) (w : Served n σ) (old : families_below 1 fs ≡ true) where
  -- one call more, at a state
  run_step : (q : BusCall) → accepted n fs σ q ≡ true → {b : Bus} {ds : List Device} → Sound n fs b ds → (s : State) → state_of b ≡ s
      → {qs : List BusCall} {b' : Bus} {ds₁ ds' : List Device} {rs : List (List ℕ)} {r : List ℕ} → Ran σ qs (bus_of (next n σ q s)) ds₁ b' ds' rs
      → served q s ds ≡ ds₁ → given_back n σ q s ds ≡ r → Ran σ (q ∷ qs) b ds b' ds' (r ∷ rs)
  unfolding bus_all parts_all numbers replies
  run_step q a {b} {ds} v s e {ds₁ = ds₁} ran f g =
      let bus : bus_after σ q b ds ≡ bus_of (next n σ q s) = bus_by σ q v ∙ rw (a, e) in
      let parts : parts_after σ q b ds ≡ ds₁ = parts_by σ q v ∙ rw (a, e) f in
      record {
        all_served = rw (number_alone σ q v, eqb-true (refusal_alone n fs σ q) 0 a, bus, parts, ran.all_served);
        bus_left = rw (bus, parts) ran.bus_left;
        parts_left = rw (bus, parts) ran.parts_left;
        given_back = rw (reply_by σ q v, a, e, g, bus, parts, ran.given_back);
      }

  wire : wire_refusal n fs true σ ≡ 0
  wire = rw (lt-ltb 0 n (omega arith), lt-ltb n 17 (omega (arith, w.few)), w.apart, w.seven, old)

  module _ (ds : List Device) (l : length ds ≡ n) (kinds : families ds ≡ fs) (z : all_sound ds ≡ true) where
    -- a call in part k's transfer, where its record is y
    use_run : (q : BusCall) → accepted n fs σ q ≡ true → (u : Use) (y : Device) → y.family ≡ (record_of ds k).family → sound_record y ≡ true
        → {qs : List BusCall} {b' : Bus} {ds₁ ds' : List Device} {rs : List (List ℕ)} {r : List ℕ} → Ran σ qs (bus_of (next n σ q (Transfer k u))) ds₁ b' ds' rs
        → served q (Transfer k u) (with_record ds k y) ≡ ds₁ → given_back n σ q (Transfer k u) (with_record ds k y) ≡ r
        → Ran σ (q ∷ qs) (bus_of (Transfer k u)) (with_record ds k y) b' ds' (r ∷ rs)
    use_run q a u y f s =
        run_step q a
        (record { count = length-set ds (k - 1) y ∙ l; kinds = map-set_same (λ (x : Device). x.family) ds (k - 1) y power_up f ∙ kinds; records = sound_set ds (k - 1) y z s; bus = bus_sound n (Transfer k u) (h, g) })
        (Transfer k u) (state_bus n (Transfer k u) (h, g))

    stopped : (u : Use) (y : Device) → y.family ≡ (record_of ds k).family → sound_record y ≡ true → Ran σ (stop ∷ []) (bus_of (Transfer k u)) (with_record ds k y) (bus_of Idle) (with_record ds k y) ([] ∷ [])
    stopped u y f s = use_run stop (rw wire) u y f s (run_none σ (bus_of Idle) (with_record ds k y)) refl refl

    own : (y : Device) → record_of (with_record ds k y) k ≡ y
    own y = get_or-set_same ds (k - 1) y power_up (omega arith)

    -- data bytes from address a on, and the stop
    write_run : (vs : List ℕ) (x : Device) (a : ℕ) → x.family ≡ (record_of ds k).family → sound_record (with_command x (min a 127)) ≡ true
        → Ran σ (map put vs ++ stop ∷ []) (bus_of (Transfer k Writing)) (with_record ds k (with_command x (min a 127))) (bus_of Idle)
        (with_record ds k (with_command (with_registers x (stored x.registers a vs)) (min (a + length vs) 127)))
        (map (λ (v : ℕ). 1 ∷ 0 ∷ []) vs ++ [] ∷ [])
    unfolding received
    write_run [] x a f s = rw add-zero (stopped Writing (with_command x (min a 127)) f s)
    write_run (v ∷ vs) x a f s =
        let e : a + suc (length vs) ≡ a + 1 + length vs = omega arith in
        let y = with_command x (min a 127) in
        let x' = with_registers x (written x.registers (written_at (min a 127)) v) in
        let more = write_run vs x' (a + 1) f (rw (next_min a) at (both_families.sound.after_received y v s)) in
        rw e (use_run (put v) (rw wire) Writing y f s more (rw (own y, set-set ds (k - 1) y (received y v), next_min a)) refl)

    -- bytes asked for, and the stop
    read_run : (m : ℕ) (x : Device) (a : ℕ) → x.family ≡ (record_of ds k).family → sound_record (with_command x (min a 127)) ≡ true
        → Ran σ (replicate m get ++ stop ∷ []) (bus_of (Transfer k Reading)) (with_record ds k (with_command x (min a 127))) (bus_of Idle)
        (with_record ds k (with_command (with_registers x (read_left x.registers a m)) (min (a + m) 127)))
        (map (λ (v : ℕ). 1 ∷ v ∷ []) (read_data x.registers a m) ++ [] ∷ [])
    unfolding sent sent_data
    read_run zero x a f s = rw add-zero (stopped Reading (with_command x (min a 127)) f s)
    read_run (suc m) x a f s =
        let e : a + suc m ≡ a + 1 + m = omega arith in
        let y = with_command x (min a 127) in
        let x' = with_registers x (after_read x.registers (read_at (min a 127))) in
        let more = read_run m x' (a + 1) f (rw (next_min a) at (both_families.sound.after_sent y s)) in
        rw e (use_run get (rw wire) Reading y f s more (rw (own y, set-set ds (k - 1) y (sent y), next_min a)) (rw (own y)))

    -- a command byte, and a write
    command_run : (a : ℕ) (vs : List ℕ)
        → Ran σ (put a ∷ map put vs ++ stop ∷ []) (bus_of (Transfer k Command)) ds (bus_of Idle)
        (with_record ds k (with_command (with_registers (record_of ds k) (stored (record_of ds k).registers (a % 128) vs)) (min (a % 128 + length vs) 127)))
        ((1 ∷ 0 ∷ []) ∷ map (λ (v : ℕ). 1 ∷ 0 ∷ []) vs ++ [] ∷ [])
    unfolding commanded
    command_run a vs =
        let d = record_of ds k in
        let e : min (a % 128) 127 ≡ a % 128 = omega (arith, mod-lt a {m = 128} (omega arith)) in
        run_step (put a) (rw wire) (record { count = l; kinds = kinds; records = z; bus = bus_sound n (Transfer k Command) (h, g) })
        (Transfer k Command) (state_bus n (Transfer k Command) (h, g))
        (write_run vs d (a % 128) refl (rw e (both_families.sound.after_commanded d a (sound_at ds z (k - 1))))) (rw e) refl

    -- a start, and part k's slave byte
    open_run : (v : ℕ) → strap_of σ k ≡ v / 2 → (qs : List BusCall) (b : Bus) {b' : Bus} {ds' : List Device} {rs : List (List ℕ)} → sound_bus n b ≡ true
        → Ran σ qs (bus_of (Transfer k (if (odd v) Reading Command))) ds b' ds' rs
        → Ran σ (start ∷ put v ∷ qs) b ds b' ds' ([] ∷ (1 ∷ 0 ∷ []) ∷ rs)
    open_run v e qs b f ran =
        let m = matches sixteen w v k h g e in
        let o = slave_taken k v h in
        run_step start (rw wire) (record { count = l; kinds = kinds; records = z; bus = f }) (state_of b) refl
        (run_step (put v) (rw wire) (record { count = l; kinds = kinds; records = z; bus = bus_sound n Slave tt }) Slave refl (rw (m, o.0) ran) refl (rw m o.1)) refl refl

    transactions : (b : Bus) → sound_bus n b ≡ true → Transaction σ b ds k
    transactions b f =
        let d = record_of ds k in
        record {
          write = λ a vs.
              let even : odd (2 * strap_of σ k) ≡ false = ne_eqb (2 * strap_of σ k % 2) 1 (λ e. omega arith) in
              open_run (2 * strap_of σ k) (omega arith) (put a ∷ map put vs ++ stop ∷ []) b f (rw even (command_run a vs));
          read = λ m.
              let high : odd (2 * strap_of σ k + 1) ≡ true = eq-eqb ((2 * strap_of σ k + 1) % 2) 1 (omega arith) in
              let s = sound_at ds z (k - 1) in
              let family : ltb d.family 1 ≡ true = rw (← kinds, family_at_lem) at (below_at 0 fs (k - 1) old) in
              let e : min d.command 127 ≡ d.command = omega (arith, ltb-true d.command 128 (old_command d family s)) in
              open_run (2 * strap_of σ k + 1) (omega arith) (replicate m get ++ stop ∷ []) b f
              (rw high (rw (e, set-get_or ds (k - 1) power_up) at (read_run m d d.command refl (rw e s))));
        }

pub all_transactions : Transactions
all_transactions σ b ds sixteen few apart seven old z f k h g =
    transactions (length ds) k (families ds) σ sixteen h g (record { few = few; apart = apart; seven = seven }) old ds refl refl z b f
