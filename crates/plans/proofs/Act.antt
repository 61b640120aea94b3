-- An allowed word, to a driver's planes, is nothing, a write to one digit, or a clear; all else of the registers stays.
-- Assumes nothing.
use Rattle.ground.proofs.Names.{ℕ, ◌/◌, ◌%◌, ◌^◌, ◌<◌, ◌≤◌, arith, Bool, true, false, not, ◌&&◌, ◌||◌, List, [], ◌∷◌, ◌≡◌, refl, ap, ◌∙◌, eqb, eqb-true, ne_eqb, le-ltb, not-true, if, bit, and_left, and_right}
use Rattle.words.specs.Addresses.{word_of, high_register}
use Rattle.words.specs.declared.Register.TheVariants.{Configuration}
use Rattle.words.specs.declared.Word.TheVariants.{Write}
use Rattle.digits.specs.Digits.{cleared}
use Rattle.digits.specs.declared.Planes.{Planes}
use Rattle.controls.specs.Config.{config_of}
use Rattle.controls.specs.declared.Config.{Config}
use Rattle.registers.specs.Record.{with_planes}
use Rattle.registers.specs.Registers.{configured}
use Rattle.registers.specs.declared.Registers.{Registers}
use Rattle.device.specs.Taken.{taken}
use Rattle.device.specs.Table15.{after_words}
use Rattle.device.specs.declared.Device.{Device}
use Rattle.plans.specs.Words.{digit_write, same_config, zero_tpx, keeps, allowed_by, allowed, every}
use Rattle.plans.specs.Act.{stay, clear, acted, act_of, drawn}

pub or_cases : (a b : Bool) → (a || b) ≡ true → {C : Type 0} → (a ≡ true → C) → (b ≡ true → C) → C
or_cases true b e f g = f refl
or_cases false b e f g = g e

-- the word of a digit write
digit_word : (w r : ℕ) → w / 4096 ≡ r → 2 ≤ r → r < 8 → word_of w ≡ Write (high_register r (w / 256 % 16)) (w % 256)
digit_word w r e low high =
    let a : w / 2 ^ 15 % 2 ≡ 0 = omega arith in
    let b : w / 256 % 128 / 16 ≡ r = omega arith in
    let c : w / 256 % 128 % 16 ≡ w / 256 % 16 = omega arith in
    rw (a, ne_eqb (w / 256 % 128 / 8) 1 (λ z. omega arith), le-ltb (w / 256 % 128) 8 (omega arith), b, c)

-- the word of a configuration write
pub config_word : (w : ℕ) → w / 256 ≡ 4 → word_of w ≡ Write Configuration (w % 256)
config_word w e =
    let a : w / 2 ^ 15 % 2 ≡ 0 = omega arith in
    let b : w / 256 % 128 ≡ 4 = omega arith in
    rw (a, b)

-- four tests passed
pub all_four : (a b c d : Bool) → (a && b && c && d) ≡ true → (a ≡ true) × (b ≡ true) × (c ≡ true) × (d ≡ true)
all_four a b c d h =
    let three = and_left (a && b && c) d h in
    let two = and_left (a && b) c three in
    (and_left a b two, and_right a b two, and_right (a && b) c three, and_right (a && b && c) d h)

same_config_lem : (x y : Config) → same_config x y ≡ true → x ≡ y
same_config_lem x y h =
    let t = all_four (eqb x.i y.i) (eqb x.e y.e) (eqb x.b y.b) (eqb x.s y.s) h in
    λ k. record {
      i = eqb-true x.i y.i t.0 k;
      e = eqb-true x.e y.e t.1 k;
      b = eqb-true x.b y.b t.2 k;
      s = eqb-true x.s y.s t.3 k;
    }

-- T is 0, and I, E, B and S stay
blink_kept : (c : Config) (v : ℕ) → keeps c v ≡ true → bit 4 v ≡ false
blink_kept c v h =
    let zero = and_right (same_config (config_of v) c) (zero_tpx v) h in
    not-true _ (and_left (not (bit 4 v)) (not (bit 7 v)) (and_left (not (bit 4 v) && not (bit 7 v)) (not (bit 1 v)) zero))

config_kept : (c : Config) (v : ℕ) → keeps c v ≡ true → config_of v ≡ c
config_kept c v h = same_config_lem (config_of v) c (and_left (same_config (config_of v) c) (zero_tpx v) h)

-- a choice of acts is a choice of planes
clear_or : (p : Planes) (b : Bool) → if b cleared p ≡ acted p (if b clear stay)
clear_or p true = refl
clear_or p false = refl

configured_kept : (x : Registers) (v : ℕ) → keeps x.config v ≡ true → configured x v ≡ with_planes x (acted x.planes (if (bit 5 v) clear stay))
configured_kept x v h = rw (config_kept x.config v h, blink_kept x.config v h, clear_or)

-- what the registers become
module _ (d : Device) where
  abbrev pub Becomes : ℕ → Type 0
  Becomes w = (taken d w).registers ≡ with_planes d.registers (acted d.registers.planes (act_of w))

  pub by_none : (w : ℕ) → w ≡ 0 → Becomes w
  unfolding taken
  by_none w e = rw e

  pub by_digit : (w : ℕ) → digit_write w ≡ true → Becomes w
  unfolding taken
  by_digit w h =
      or_cases (eqb (w / 4096) 2 || eqb (w / 4096) 4) (eqb (w / 4096) 6) h
      (λ g. or_cases (eqb (w / 4096) 2) (eqb (w / 4096) 4) g
      (λ e. let q = eqb-true _ _ e in rw (digit_word w 2 q (omega arith) (omega arith), q))
      (λ e. let q = eqb-true _ _ e in rw (digit_word w 4 q (omega arith) (omega arith), q)))
      (λ e. let q = eqb-true _ _ e in rw (digit_word w 6 q (omega arith) (omega arith), q))

  by_config : (w : ℕ) → w / 256 ≡ 4 → keeps d.registers.config (w % 256) ≡ true → Becomes w
  unfolding taken
  by_config w e h =
      let q : w / 4096 ≡ 0 = omega arith in
      rw (config_word w e, q, e) (configured_kept d.registers (w % 256) h)

-- an allowed word changes planes alone
allowed_registers : (d : Device) (w : ℕ) → allowed d w ≡ true → (taken d w).registers ≡ with_planes d.registers (acted d.registers.planes (act_of w))
allowed_registers d w h =
    or_cases (eqb w 0 || digit_write w) (eqb (w / 256) 4 && keeps d.registers.config (w % 256)) h
    (λ g. or_cases (eqb w 0) (digit_write w) g (λ e. by_none d w (eqb-true w 0 e)) (by_digit d w))
    (λ g. by_config d w (eqb-true _ _ (and_left _ _ g)) (and_right (eqb (w / 256) 4) _ g))

-- so a list of allowed words does to the planes what `drawn` says
pub after_planes : (ws : List ℕ) (d : Device) → every (allowed d) ws ≡ true → (after_words d ws).registers.planes ≡ drawn d.registers.planes ws
unfolding every drawn
after_planes [] d h = refl
after_planes (w ∷ ws) d h =
    let e = allowed_registers d w (and_left (allowed d w) (every (allowed d) ws) h) in
    let g : every (allowed (taken d w)) ws ≡ true = rw (ap (λ (x : Registers). every (allowed_by x.config) ws) e) (and_right (allowed d w) (every (allowed d) ws) h) in
    after_planes ws (taken d w) g ∙ ap (λ (x : Registers). drawn x.planes ws) e
