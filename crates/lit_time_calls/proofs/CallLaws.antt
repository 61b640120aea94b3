-- What a call on a row adds to the totals.
-- Assumes nothing.
use Rattle.ground.proofs.Names.{ℕ, ◌+◌, ◌-◌, ◌*◌, ◌/◌, ◌%◌, ◌^◌, ◌<◌, ◌≤◌, arith, Bool, true, false, List, ◌≡◌, refl, sym, ap, ◌∙◌, dec_lt, eqb, length, get_or, length-take-le, get_or-take, eqb-true, eqb-false, eq-eqb, ne_eqb, ltb-true, if}
use Rattle.registers.proofs.Sound.{parts}
use Rattle.device.specs.PowerUp.{power_up}
use Rattle.device.specs.declared.Device.{Device}
use Rattle.device.proofs.Sound.{registers_sound}
use Rattle.lit_time.specs.LitTime.{lit_time}
use Rattle.calls.specs.Calls.{clocks, Question, Call, give, ask}
use Rattle.calls.specs.Served.{record_of}
use Rattle.calls.specs.Outcome.{number}
use Rattle.calls.proofs.Accepted.{number_says, driver_there}
use Rattle.calls.proofs.Old.{clocked_sound}
use Rattle.row.specs.Row.{records, number_on, done_on}
use Rattle.row.specs.declared.Row.{Row}
use Rattle.row.specs.declared.Done.{Done}
use Rattle.printed.specs.Format.{byte, test_table}
use Rattle.script_records.specs.Records.{clocks_of, step_of}
use Rattle.lit_time_calls.specs.Progress.{Added, added_by, Ready, Counted}

either_none : (b : Bool) → ◌≡◌ {A = ℕ} (if b 0 0) 0
either_none true = refl
either_none false = refl

-- a call that adds nothing
pub counted_none : (r : Row) (q : Call) (t : List ℕ) (r' : Row) → r' ≡ (done_on r q).row → ((i : ℕ) → added_by r q i ≡ 0) → Counted r q t t r'
counted_none r q t r' e z =
    record {
      row_after = e;
      totals = record { same_room = refl; total = λ i l. omega (arith, z i); rest = λ i l. refl };
    }

pub ask_adds : (r : Row) (j : ℕ) (q : Question) (i : ℕ) → added_by r (ask j q) i ≡ 0
ask_adds r j q i = either_none (eqb (number (ask j q) (records r)) 0)

-- what clocks that are served say of the row
pub record Given (r : Row) (j : ℕ) : Type 0 where
  pub there : 1 ≤ j
  pub last : j ≤ r.n
  pub named : get_or r.devices (j - 1) power_up ≡ record_of (records r) j
  pub count : (get_or r.devices (j - 1) power_up).registers.blink < 4000000

pub given : (r : Row) (t : List ℕ) (j k : ℕ) → Ready r t → number_on r (give j (clocks k)) ≡ 0 → Given r j
given r t j k y z =
    let a = number_says (give j (clocks k)) (records r) z in
    let l : length (records r) ≡ r.n = length-take-le r.n r.devices y.wide in
    let p = driver_there (length (records r)) j a.named in
    let b : j - 1 < r.n = omega (arith, p.0, p.1, l) in
    let e : get_or r.devices (j - 1) power_up ≡ record_of (records r) j = sym (get_or-take r.n r.devices (j - 1) power_up b) in
    let q = (parts (record_of (records r) j).registers (registers_sound (record_of (records r) j) (clocked_sound j k (records r) z))).blink in
    record {
      there = p.0;
      last = omega (arith, p.1, l);
      named = e;
      count = rw e (ltb-true _ 4000000 q);
    }

-- a step record that is neither a scan nor pin levels
clocks_step : (kind : ℕ) (b : List ℕ) → (kind ≡ 3 → ⊥) → (kind ≡ 4 → ⊥) → step_of kind b ≡ give (byte b 0) (clocks (clocks_of b))
clocks_step kind b three four = rw (ne_eqb kind 3 three, ne_eqb kind 4 four)

-- a step record that is served, and is neither a scan nor pin levels
pub record Ticks (r : Row) (kind : ℕ) (b : List ℕ) : Type 0 where
  pub step : step_of kind b ≡ give (byte b 0) (clocks (clocks_of b))
  pub served : number_on r (give (byte b 0) (clocks (clocks_of b))) ≡ 0
  pub given : Given r (byte b 0)

pub ticks : (r : Row) (t : List ℕ) (kind : ℕ) (b : List ℕ) (d : Done) → d ≡ done_on r (step_of kind b) → d.number ≡ 0 → (kind ≡ 3 → ⊥) → (kind ≡ 4 → ⊥)
    → Ready r t → Ticks r kind b
ticks r t kind b d e z three four y =
    let q = clocks_step kind b three four in
    let n : number_on r (step_of kind b) ≡ 0 = sym (ap (λ (x : Done). x.number) e) ∙ z in
    let s = rw q at n in
    record { step = q; served = s; given = given r t (byte b 0) (clocks_of b) y s }

module _ (r : Row) (j k : ℕ) (z : number_on r (give j (clocks k)) ≡ 0) where
  -- the driver that they are given to, and another
  own_adds : (i : ℕ) → j ≡ i / 8 + 1 → added_by r (give j (clocks k)) i ≡ lit_time (record_of (records r) j) (i % 8) test_table test_table k
  own_adds i e = rw (z, ← e, eq-eqb j j refl)

  other_adds : (i : ℕ) → (j ≡ i / 8 + 1 → ⊥) → added_by r (give j (clocks k)) i ≡ 0
  other_adds i e =
      let served = eqb (number (give j (clocks k)) (records r)) 0 in
      ap (λ (own : Bool). if served (if own (lit_time (record_of (records r) (i / 8 + 1)) (i % 8) test_table test_table k) 0) 0) (ne_eqb j (i / 8 + 1) e)
      ∙ either_none served

  -- the driver's eight totals have space
  pub own_space : (t : List ℕ) (x : Device) → Ready r t → Given r j → x ≡ get_or r.devices (j - 1) power_up
      → ((i : ℕ) → i < 8 * r.n → get_or t i 0 + added_by r (give j (clocks k)) i < 2 ^ 64)
      → (d : ℕ) → d < 8 → get_or t (8 * (j - 1) + d) 0 + lit_time x d test_table test_table k < 2 ^ 64
  own_space t x y g e s d l =
      let i = 8 * (j - 1) + d in
      let b : i < 8 * r.n = omega (arith, g.there, g.last) in
      let o = own_adds i (omega (arith, g.there)) in
      let m : i % 8 ≡ d = omega arith in
      let x' : x ≡ record_of (records r) j = e ∙ g.named in
      rw x' (rw (o, m) at (s i b))

  -- clocks that are served
  pub counted_clocks : (t t' : List ℕ) (x : Device) (r' : Row) → r' ≡ (done_on r (give j (clocks k))).row → Ready r t → Given r j
      → x ≡ get_or r.devices (j - 1) power_up
      → Added 8 (λ d. lit_time x d test_table test_table k) (8 * (j - 1)) t t' → Counted r (give j (clocks k)) t t' r'
  counted_clocks t t' x r' e y g w a =
      record {
        row_after = e;
        totals = record { same_room = a.same_room; total = λ i l. go i (eqb j (i / 8 + 1)) refl; rest = λ i l. a.above i (omega (arith, g.there, g.last)) };
      }
    where
      apart : (i : ℕ) → (j ≡ i / 8 + 1 → ⊥) → Dec (i < 8 * (j - 1)) → get_or t' i 0 ≡ get_or t i 0
      apart i n (yes l) = a.below i l
      apart i n (no l) = a.above i (omega (arith, g.there, n))

      go : (i : ℕ) (b : Bool) → eqb j (i / 8 + 1) ≡ b → get_or t' i 0 ≡ get_or t i 0 + added_by r (give j (clocks k)) i
      go i true q =
          let p = eqb-true j (i / 8 + 1) q in
          let m : 8 * (j - 1) + i % 8 ≡ i = omega arith in
          let x' : x ≡ record_of (records r) j = w ∙ g.named in
          rw (own_adds i p, ← x') (rw m at (a.within (i % 8) (omega arith)))
      go i false q =
          let n = eqb-false j (i / 8 + 1) q in
          omega (arith, other_adds i n, apart i n (dec_lt i (8 * (j - 1))))
