-- The widths of a chain's records of the old family tell whether each is sound.
--     all_start, all_more      the records one by one
--     or_small, or_byte, greater-small, cross       two numbers together pass a test where each does
--     fit_more                 one record of the old family more, whose bytes are bytes
--     old_of, fit-old          all records: whether they are of the old family, and then whether they are sound
-- Assumes nothing.
use Rattle.ground.proofs.Names.{ℕ, ◌+◌, ◌/◌, ◌%◌, ◌^◌, ◌<◌, add-one, dec_lt, arith, Bool, true, false, ◌&&◌, and_assoc, List, [], ◌∷◌, ◌++◌, ◌≡◌, refl, sym, ap, ap₂, ◌∙◌, bit_or, or_lt, or_add_and, and_le_l, and_le_r, or_shr, or_mod, ltb, length, get_or, take, take-suc, lt-ltb, le-ltb, ltb-true, eq-eqb, and_left, and_right}
use mathlib.Core.Bool.{and-true}
use Rattle.device.specs.PowerUp.{power_up}
use Rattle.device.specs.Sound.{sound_of}
use Rattle.device.specs.Families.{families, sound_record}
use Rattle.device.specs.declared.Device.{Device}
use Rattle.calls.specs.CallRefusals.{families_below, all_sound}
use Rattle.pass.specs.Widths.{greater, first_bytes, last_bytes, end_bytes, no_widths, widths_with, widths_of, fit, all_old, Bytes, AllBytes}
use Rattle.pass.specs.declared.Widths.{Widths}

-- ---- the records one by one
pub widths_start : (xs : List Device) → no_widths ≡ widths_of no_widths (take 0 xs)
unfolding widths_of
widths_start xs = refl

widths_added : (s : Widths) (ds : List Device) (d : Device) → widths_of s (ds ++ d ∷ []) ≡ widths_with (widths_of s ds) d
unfolding widths_of
widths_added s [] d = refl
widths_added s (x ∷ ds) d = widths_added (widths_with s x) ds d

pub widths_more : (xs : List Device) (k : ℕ) → k < length xs → widths_with (widths_of no_widths (take k xs)) (get_or xs k power_up) ≡ widths_of no_widths (take (k + 1) xs)
widths_more xs k h = rw (add-one, take-suc xs k power_up h) (sym (widths_added no_widths (take k xs) (get_or xs k power_up)))

pub all_start : (xs : List Device) → AllBytes (take 0 xs)
unfolding AllBytes
all_start xs = tt

pub all_more : (xs : List Device) (k : ℕ) → k < length xs → AllBytes (take k xs) → Bytes (get_or xs k power_up) → AllBytes (take (k + 1) xs)
unfolding AllBytes
all_more xs k h w b = rw (add-one, take-suc xs k power_up h) (go (take k xs) w)
  where
    go : (ds : List Device) → AllBytes ds → AllBytes (ds ++ get_or xs k power_up ∷ [])
    go [] w = (b, tt)
    go (d ∷ ds) w = (w.0, go ds w.1)

-- ---- two numbers together pass a test where each does
-- a test that is two tests
pub record Two (p a b : Bool) : Type 0 where
  pub same : p ≡ a && b

-- two of them, crosswise
pub cross : {p x a b c d : Bool} → Two p a b → Two x c d → Two (p && x) (a && c) (b && d)
cross {a = a} {b = b} {c = c} {d = d} e f = record { same = ap₂ ◌&&◌ e.same f.same ∙ go a b c }
  where
    go : (a b c : Bool) → (a && b) && (c && d) ≡ (a && c) && (b && d)
    go true true c = refl
    go true false true = refl
    go true false false = refl
    go false b c = refl

-- bits one over the other have none too high where neither has
pub or_small : (k a b : ℕ) → Two (ltb (bit_or a b) (2 ^ k)) (ltb a (2 ^ k)) (ltb b (2 ^ k))
or_small k a b = record { same = go (dec_lt a (2 ^ k)) (dec_lt b (2 ^ k)) }
  where
    go : Dec (a < 2 ^ k) → Dec (b < 2 ^ k) → ltb (bit_or a b) (2 ^ k) ≡ ltb a (2 ^ k) && ltb b (2 ^ k)
    go (yes p) (yes r) = rw (lt-ltb a (2 ^ k) p, lt-ltb b (2 ^ k) r, lt-ltb (bit_or a b) (2 ^ k) (or_lt k a b p r))
    go (yes p) (no r) = rw (lt-ltb a (2 ^ k) p, le-ltb b (2 ^ k) (omega (arith, r)), le-ltb (bit_or a b) (2 ^ k) (omega (arith, r, or_add_and a b, and_le_l a b)))
    go (no p) r = rw (le-ltb a (2 ^ k) (omega (arith, p)), le-ltb (bit_or a b) (2 ^ k) (omega (arith, p, or_add_and a b, and_le_r a b)))

-- the same of the byte at bit j, which is v in the second number
pub or_byte : (j k a b v : ℕ) → b / 2 ^ j % 2 ^ 8 ≡ v → Two (ltb (bit_or a b / 2 ^ j % 2 ^ 8) (2 ^ k)) (ltb (a / 2 ^ j % 2 ^ 8) (2 ^ k)) (ltb v (2 ^ k))
or_byte j k a b v e =
    record {
      same = ap (λ (u : ℕ). ltb (u % 2 ^ 8) (2 ^ k)) (or_shr a b j)
          ∙ ap (λ (u : ℕ). ltb u (2 ^ k)) (or_mod (a / 2 ^ j) (b / 2 ^ j) 8)
          ∙ (or_small k (a / 2 ^ j % 2 ^ 8) (b / 2 ^ j % 2 ^ 8)).same
          ∙ ap (λ (u : ℕ). ltb (a / 2 ^ j % 2 ^ 8) (2 ^ k) && ltb u (2 ^ k)) e;
    }

-- the greater of two numbers is below a third where both are
pub greater_small : (m a b : ℕ) → Two (ltb (greater a b) m) (ltb a m) (ltb b m)
greater_small m a b = record { same = go (dec_lt a b) (dec_lt a m) (dec_lt b m) }
  where
    go : Dec (a < b) → Dec (a < m) → Dec (b < m) → ltb (greater a b) m ≡ ltb a m && ltb b m
    go (yes p) (yes q) r = rw (lt-ltb a b p, lt-ltb a m q)
    go (yes p) (no q) r = rw (lt-ltb a b p, le-ltb a m (omega (arith, q)), le-ltb b m (omega (arith, p, q)))
    go (no p) (yes q) r = rw (le-ltb a b (omega (arith, p)), lt-ltb a m q, lt-ltb b m (omega (arith, p, q)))
    go (no p) (no q) r = rw (le-ltb a b (omega (arith, p)), le-ltb a m (omega (arith, q)))

-- ---- one record more
module _ (w : Widths) (d : Device) (y : Bytes d) where
  -- a byte of the eight, and of two
  first_byte : (j k v : ℕ) → first_bytes d / 2 ^ j % 2 ^ 8 ≡ v → Two (ltb (bit_or w.first (first_bytes d) / 2 ^ j % 2 ^ 8) (2 ^ k)) (ltb (w.first / 2 ^ j % 2 ^ 8) (2 ^ k)) (ltb v (2 ^ k))
  first_byte j k v e = or_byte j k w.first (first_bytes d) v e

  last_byte : (j k v : ℕ) → last_bytes d / 2 ^ j % 2 ^ 8 ≡ v → Two (ltb (bit_or w.last (last_bytes d) / 2 ^ j % 2 ^ 8) (2 ^ k)) (ltb (w.last / 2 ^ j % 2 ^ 8) (2 ^ k)) (ltb v (2 ^ k))
  last_byte j k v e = or_byte j k w.last (last_bytes d) v e

  end_byte : (j k v : ℕ) → end_bytes d / 2 ^ j % 2 ^ 8 ≡ v → Two (ltb (bit_or w.ends (end_bytes d) / 2 ^ j % 2 ^ 8) (2 ^ k)) (ltb (w.ends / 2 ^ j % 2 ^ 8) (2 ^ k)) (ltb v (2 ^ k))
  end_byte j k v e = or_byte j k w.ends (end_bytes d) v e

  -- which byte is which field
  firsts : (first_bytes d / 1 % 256 ≡ d.registers.controls.global)
      × (first_bytes d / 256 % 256 ≡ d.registers.controls.limit)
      × (first_bytes d / 65536 % 256 ≡ d.registers.controls.gpio)
      × (first_bytes d / 4294967296 % 256 ≡ d.registers.controls.test)
      × (first_bytes d / 281474976710656 % 256 ≡ d.registers.config.i)
      × (first_bytes d / 72057594037927936 % 256 ≡ d.registers.config.e)
  firsts = omega (arith, y)

  lasts : (last_bytes d / 1 % 256 ≡ d.registers.config.b) × (last_bytes d / 256 % 256 ≡ d.registers.config.s)
  lasts = omega (arith, y)

  ends : (end_bytes d / 256 % 256 ≡ d.answer_mark) × (end_bytes d / 65536 % 256 ≡ d.command) × (end_bytes d / 16777216 % 256 ≡ d.family)
  ends = omega (arith, y.fitted, y.mark, y.command, y.family)

  old_more : all_old (widths_with w d) ≡ all_old w && ltb d.family 1
  old_more = (end_byte 24 0 d.family ends.2).same

  pub fit_more : fit (widths_with w d) ≡ fit w && sound_of d
  fit_more =
      let c = d.registers.controls in
      let f = d.registers.config in
      let controls = cross (cross (cross (first_byte 0 4 c.global firsts.0) (first_byte 8 3 c.limit firsts.1)) (first_byte 16 5 c.gpio firsts.2)) (first_byte 32 1 c.test firsts.3) in
      let config = cross (cross (cross (first_byte 48 1 f.i firsts.4) (first_byte 56 1 f.e firsts.5)) (last_byte 0 1 f.b lasts.0)) (last_byte 8 1 f.s lasts.1) in
      let keys = or_small 1 w.interrupt d.registers.keys.interrupt in
      let pins = or_small 5 w.pins d.registers.pins in
      let blink = greater_small 4000000 w.blink d.registers.blink in
      let registers = cross (cross (cross (cross controls config) keys) pins) blink in
      (cross (cross registers (end_byte 8 1 d.answer_mark ends.0)) (end_byte 16 7 d.command ends.1)).same

-- ---- all records
pub old_of : (w : Widths) (ds : List Device) → AllBytes ds → all_old (widths_of w ds) ≡ all_old w && families_below 1 (families ds)
unfolding widths_of families_below AllBytes
old_of w [] y = sym (and-true (all_old w))
old_of w (d ∷ ds) y =
    old_of (widths_with w d) ds y.1
    ∙ ap (λ (b : Bool). b && families_below 1 (families ds)) (old_more w d y.0)
    ∙ and_assoc (all_old w) (ltb d.family 1) (families_below 1 (families ds))

-- a record of the old family
sound_old : (d : Device) → ltb d.family 1 ≡ true → sound_record d ≡ sound_of d
unfolding sound_record
sound_old d o = let z : d.family ≡ 0 = omega (arith, ltb-true d.family 1 o) in rw (eq-eqb d.family 0 z)

-- where all are, the widths tell whether each is sound
pub fit_old : (w : Widths) (ds : List Device) → AllBytes ds → families_below 1 (families ds) ≡ true → fit (widths_of w ds) ≡ fit w && all_sound ds
unfolding widths_of families_below all_sound AllBytes
fit_old w [] y o = sym (and-true (fit w))
fit_old w (d ∷ ds) y o =
    let a = and_left (ltb d.family 1) (families_below 1 (families ds)) o in
    fit_old (widths_with w d) ds y.1 (and_right (ltb d.family 1) (families_below 1 (families ds)) o)
    ∙ ap (λ (b : Bool). b && all_sound ds) (fit_more w d y.0 ∙ ap (λ (b : Bool). fit w && b) (sym (sound_old d a)))
    ∙ and_assoc (fit w) (sound_record d) (all_sound ds)
