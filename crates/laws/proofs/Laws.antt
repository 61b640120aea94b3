-- The proof of `specs/DriverLaws.antt`'s laws: a digit write sets a digit in one list or in both, and nothing else.
-- Assumes nothing.
use Rattle.ground.proofs.Names.{ℕ, ◌+◌, ◌/◌, ◌%◌, ◌<◌, arith, Bool, true, false, not, ◌||◌, List, [], ◌∷◌, ◌++◌, ◌≡◌, refl, sym, ap, ap₂, ◌∙◌, eqb, set, set_comm, eqb-true, if, bit, and_left, and_right}
use Rattle.digits.specs.declared.Planes.{Planes}
use Rattle.registers.specs.Record.{with_planes}
use Rattle.registers.specs.Registers.{configured}
use Rattle.registers.specs.declared.Registers.{Registers}
use Rattle.device.specs.Record.{with_blink}
use Rattle.device.specs.Steps.{clocked}
use Rattle.device.specs.Taken.{taken}
use Rattle.device.specs.declared.Device.{Device}
use Rattle.plans.specs.Words.{digit_write, every}
use Rattle.plans.specs.Act.{acted, act_of}
use Rattle.plans.specs.Plan.{put0, put1, put_both}
use Rattle.plans.proofs.Act.{or_cases, config_word, by_none, by_digit}
use Rattle.plans.proofs.Planner.{digit_parts}
use Rattle.laws.specs.DriverLaws.{registers_after, digit_of, drawing, clearing, DriverLaws, OrderExamples}

-- a list with a digit set, or as it was
abbrev touch : Bool → List ℕ → ℕ → ℕ → List ℕ
touch b l i v = if b (set l i v) l

-- the planes after a digit write: P0 unless it names P1, P1 unless it names P0
abbrev touched : Planes → ℕ → Planes
touched p w = record {
  p0 = touch (not (eqb (w / 4096) 4)) p.p0 (digit_of w) (w % 256);
  p1 = touch (not (eqb (w / 4096) 2)) p.p1 (digit_of w) (w % 256);
}

by_touch : (p : Planes) (w : ℕ) → digit_write w ≡ true → acted p (act_of w) ≡ touched p w
by_touch p w h =
    or_cases (eqb (w / 4096) 2 || eqb (w / 4096) 4) (eqb (w / 4096) 6) h
    (λ g. or_cases (eqb (w / 4096) 2) (eqb (w / 4096) 4) g (λ e. rw (eqb-true (w / 4096) 2 e)) (λ e. rw (eqb-true (w / 4096) 4 e)))
    (λ e. rw (eqb-true (w / 4096) 6 e))

-- so the registers after one
after_write : (d : Device) (w : ℕ) → digit_write w ≡ true → (taken d w).registers ≡ with_planes d.registers (touched d.registers.planes w)
after_write d w h = by_digit d w h ∙ ap (with_planes d.registers) (by_touch d.registers.planes w h)

-- and after two
after_writes : (d : Device) (w v : ℕ) → digit_write w ≡ true → digit_write v ≡ true
    → registers_after d (w ∷ v ∷ []) ≡ with_planes d.registers (touched (touched d.registers.planes w) v)
after_writes d w v g h = after_write (taken d w) v h ∙ ap (λ (x : Registers). with_planes x (touched x.planes v)) (after_write d w g)

touch_comm : (b c : Bool) (l : List ℕ) (i j x y : ℕ) → (i ≡ j → ⊥) → touch c (touch b l i x) j y ≡ touch b (touch c l j y) i x
touch_comm true true l i j x y h = set_comm l i j x y h
touch_comm true false l i j x y h = refl
touch_comm false true l i j x y h = refl
touch_comm false false l i j x y h = refl

pub either_order : (d : Device) (w v : ℕ) → digit_write w ≡ true → digit_write v ≡ true → (digit_of w ≡ digit_of v → ⊥)
    → registers_after d (w ∷ v ∷ []) ≡ registers_after d (v ∷ w ∷ [])
either_order d w v g h ne =
    let p = d.registers.planes in
    let e0 = touch_comm (not (eqb (w / 4096) 4)) (not (eqb (v / 4096) 4)) p.p0 (digit_of w) (digit_of v) (w % 256) (v % 256) ne in
    let e1 = touch_comm (not (eqb (w / 4096) 2)) (not (eqb (v / 4096) 2)) p.p1 (digit_of w) (digit_of v) (w % 256) (v % 256) ne in
    after_writes d w v g h
    ∙ ap₂ (λ (x y : List ℕ). with_planes d.registers (record { p0 = x; p1 = y })) e0 e1
    ∙ sym (after_writes d v w h g)

-- the three words to digit k
module _ (d : Device) (k v : ℕ) (hk : k < 16) (hv : v < 256) where
  -- digit k set in both lists
  abbrev both_set : Registers
  both_set = with_planes d.registers (record { p0 = set d.registers.planes.p0 k v; p1 = set d.registers.planes.p1 k v })

  by_both : registers_after d (put_both k v ∷ []) ≡ both_set
  by_both = let r = digit_parts k v hk hv 6 in after_write d (put_both k v) (rw r.0) ∙ rw (r.0, r.1, r.2)

  pub both_planes : registers_after d (put_both k v ∷ []) ≡ registers_after d (put0 k v ∷ put1 k v ∷ [])
  both_planes =
      let r = digit_parts k v hk hv 2 in
      let s = digit_parts k v hk hv 4 in
      by_both ∙ sym (after_writes d (put0 k v) (put1 k v) (rw r.0) (rw s.0) ∙ rw (r.0, r.1, r.2, s.0, s.1, s.2))

  both_planes_turned : registers_after d (put_both k v ∷ []) ≡ registers_after d (put1 k v ∷ put0 k v ∷ [])
  both_planes_turned =
      let r = digit_parts k v hk hv 2 in
      let s = digit_parts k v hk hv 4 in
      by_both ∙ sym (after_writes d (put1 k v) (put0 k v) (rw s.0) (rw r.0) ∙ rw (r.0, r.1, r.2, s.0, s.1, s.2))

-- the no-op leaves the registers, and a digit write after it does what it does alone
rests : (d : Device) → (taken d 0).registers ≡ d.registers
rests d = by_none d 0 refl

pub waits : (d : Device) (w : ℕ) → digit_write w ≡ true → registers_after d (w ∷ 0 ∷ []) ≡ registers_after d (0 ∷ w ∷ [])
waits d w h =
    rests (taken d w)
    ∙ after_write d w h
    ∙ sym (after_write (taken d 0) w h ∙ ap (λ (x : Registers). with_planes x (touched x.planes w)) (rests d))

-- either changes the planes at most
changes : (d : Device) (x : ℕ) → drawing x ≡ true → (p : Planes) × ((taken d x).registers ≡ with_planes d.registers p)
changes d x g =
    or_cases (digit_write x) (eqb x 0) g (λ h. (touched d.registers.planes x, after_write d x h))
    (λ e. (acted d.registers.planes (act_of x), by_none d x (eqb-true x 0 e)))

-- a configuration write by the registers alone; with R=1 the planes before it don't matter
configures : (d : Device) (w : ℕ) → w / 256 ≡ 4 → (taken d w).registers ≡ configured d.registers (w % 256)
unfolding taken
configures d w e = rw (config_word w e)

forgets : (x : Registers) (p : Planes) (v : ℕ) → bit 5 v ≡ true → configured (with_planes x p) v ≡ configured x v
forgets x p v h = rw h

clear_after : (d : Device) (x w : ℕ) → drawing x ≡ true → w / 256 ≡ 4 → bit 5 (w % 256) ≡ true → (taken (taken d x) w).registers ≡ (taken d w).registers
clear_after d x w g e h =
    let c = changes d x g in
    configures (taken d x) w e
    ∙ ap (λ (y : Registers). configured y (w % 256)) c.1
    ∙ forgets d.registers c.0 (w % 256) h
    ∙ sym (configures d w e)

pub clear_alone : (d : Device) (ws : List ℕ) (w : ℕ) → every drawing ws ≡ true → clearing w ≡ true → registers_after d (ws ++ w ∷ []) ≡ registers_after d (w ∷ [])
unfolding every
clear_alone d [] w g h = refl
clear_alone d (x ∷ ws) w g h =
    clear_alone (taken d x) ws w (and_right (drawing x) (every drawing ws) g) h
    ∙ clear_after d x w (and_left (drawing x) (every drawing ws) g) (eqb-true _ _ (and_left (eqb (w / 256) 4) (bit 5 (w % 256)) h))
    (and_right (eqb (w / 256) 4) (bit 5 (w % 256)) h)

clocks_add : (d : Device) (a b : ℕ) → clocked (clocked d a) b ≡ clocked d (a + b)
clocks_add d a b =
    let e : ((d.registers.blink + a) % 4000000 + b) % 4000000 ≡ (d.registers.blink + (a + b)) % 4000000 = omega arith in
    ap (with_blink d) e

pub driver_laws : DriverLaws
driver_laws =
    record {
      digits_apart = λ k v hk hv. ((digit_parts k v hk hv 2).1, (digit_parts k v hk hv 4).1, (digit_parts k v hk hv 6).1);
      either_order = either_order;
      both_planes = both_planes;
      both_planes_turned = both_planes_turned;
      clear_alone = clear_alone;
      clocks_add = clocks_add;
    }

pub order_examples : OrderExamples
unfolding taken
order_examples = refl
