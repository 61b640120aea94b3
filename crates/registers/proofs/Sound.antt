-- Each step leaves the registers of a sound record sound.
-- Assumes nothing.
use Rattle.ground.proofs.Names.{ℕ, Bool, true, false, ◌&&◌, true≢false, ◌≡◌, refl, sym, ltb, bit, if_small}
use Rattle.words.specs.declared.Register.{Register}
use Rattle.words.specs.declared.Register.TheVariants.{NoOp, Control, Configuration, KeyMask, KeyDebounced, KeyPressed, Intensity, Digit, BothPlanes, Unlisted}
use Rattle.keys.specs.Keys.{sound_keys, mask_written, debounced_read}
use Rattle.keys.proofs.Sound.{masked_sound, read_sound}
use Rattle.controls.specs.Controls.{sound_controls}
use Rattle.controls.specs.Config.{sound_config}
use Rattle.controls.proofs.Sound.{written_sound, stored_sound}
use Rattle.registers.specs.Record.{with_keys, with_pins, with_blink}
use Rattle.registers.specs.Sound.{sound_registers}
use Rattle.registers.specs.Registers.{written, after_read}
use Rattle.keys.specs.declared.Keys.{Keys}
use Rattle.registers.specs.declared.Registers.{Registers}

-- the five tests of `sound_registers`
pub record Parts (x : Registers) : Type 0 where
  pub controls : sound_controls x.controls ≡ true
  pub config : sound_config x.config ≡ true
  pub keys : sound_keys x.keys ≡ true
  pub pins : ltb x.pins 32 ≡ true
  pub blink : ltb x.blink 4000000 ≡ true

all_five : (a b c p q : Bool) → (a && b && c && p && q) ≡ true → (a ≡ true) × (b ≡ true) × (c ≡ true) × (p ≡ true) × (q ≡ true)
all_five true true true true q e = (refl, refl, refl, refl, e)
all_five true true true false q e = absurd (true≢false (sym e))
all_five true true false p q e = absurd (true≢false (sym e))
all_five true false c p q e = absurd (true≢false (sym e))
all_five false b c p q e = absurd (true≢false (sym e))

pub parts : (x : Registers) → sound_registers x ≡ true → Parts x
parts x e =
    let s = all_five (sound_controls x.controls) (sound_config x.config) (sound_keys x.keys) (ltb x.pins 32) (ltb x.blink 4000000) e in
    record { controls = s.0; config = s.1; keys = s.2; pins = s.3; blink = s.4 }

-- one part replaced by a sound one
pub keys_sound : (x : Registers) (k : Keys) → sound_keys k ≡ true → sound_registers x ≡ true → sound_registers (with_keys x k) ≡ true
keys_sound x k h e = let s = parts x e in cc

pub pins_sound : (x : Registers) (n : ℕ) → ltb n 32 ≡ true → sound_registers x ≡ true → sound_registers (with_pins x n) ≡ true
pins_sound x n h e = let s = parts x e in cc

pub blink_sound : (x : Registers) (n : ℕ) → ltb n 4000000 ≡ true → sound_registers x ≡ true → sound_registers (with_blink x n) ≡ true
blink_sound x n h e = let s = parts x e in cc

pub write_sound : (x : Registers) (r : Register) (v : ℕ) → sound_registers x ≡ true → sound_registers (written x r v) ≡ true
write_sound x NoOp v e = e
write_sound x (Control c) v e = let s = parts x e in cc (written_sound x.controls c v s.controls)
write_sound x Configuration v e = let s = parts x e in cc (stored_sound v, if_small (bit 4 v) 0 x.blink 4000000 refl s.blink)
write_sound x (KeyMask g) v e = keys_sound x (mask_written x.keys g v) (masked_sound x.keys g v (parts x e).keys) e
write_sound x (KeyDebounced g) v e = e
write_sound x (KeyPressed g) v e = e
write_sound x (Intensity j) v e = e
write_sound x (Digit p i) v e = e
write_sound x (BothPlanes i) v e = e
write_sound x Unlisted v e = e

pub after_sound : (x : Registers) (r : Register) → sound_registers x ≡ true → sound_registers (after_read x r) ≡ true
after_sound x NoOp e = e
after_sound x (Control c) e = e
after_sound x Configuration e = e
after_sound x (KeyMask g) e = e
after_sound x (KeyDebounced g) e = keys_sound x (debounced_read x.keys g) (read_sound x.keys g) e
after_sound x (KeyPressed g) e = e
after_sound x (Intensity j) e = e
after_sound x (Digit p i) e = e
after_sound x (BothPlanes i) e = e
after_sound x Unlisted e = e
