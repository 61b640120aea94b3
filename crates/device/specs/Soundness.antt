-- Believed: document 01, "What the double covers": when a record is sound, field by field; the power-up record is sound, and accepted calls leave sound
-- records.
-- Assumes nothing.
use Rattle.std.specs.Prelude.{ℕ, ◌^◌, ◌<◌, Bool, true, ◌&&◌, List, [], ◌∷◌, ◌≡◌, ltb}
use Rattle.words.specs.declared.Register.{Register}
use Rattle.registers.specs.Registers.{written, after_read}
use Rattle.device.specs.Record.{with_registers, with_pins, with_fitted}
use Rattle.device.specs.PowerUp.{power_up}
use Rattle.device.specs.Sound.{sound_of}
use Rattle.device.specs.Taken.{taken}
use Rattle.device.specs.Steps.{scanned, clocked}
use Rattle.device.specs.TwoWire.{commanded, received, sent}
use Rattle.device.specs.declared.Device.{Device}

-- the fields that are narrower than their types, each with its bound: of the registers as wide as those are, the blink count, the answer mark and
-- the command address
abbrev pub bounds : Device → List (ℕ × ℕ)
bounds d =
    -- global intensity, scan limit, GPIO data, display test
    (d.registers.controls.global, 2 ^ 4)
    ∷ (d.registers.controls.limit, 2 ^ 3)
    ∷ (d.registers.controls.gpio, 2 ^ 5)
    ∷ (d.registers.controls.test, 2 ^ 1)
    -- I, E, B and S of the configuration register, the interrupt
    ∷ (d.registers.config.i, 2 ^ 1)
    ∷ (d.registers.config.e, 2 ^ 1)
    ∷ (d.registers.config.b, 2 ^ 1)
    ∷ (d.registers.config.s, 2 ^ 1)
    ∷ (d.registers.keys.interrupt, 2 ^ 1)
    -- five pin levels, the blink count
    ∷ (d.registers.pins, 2 ^ 5)
    ∷ (d.registers.blink, 4000000)
    -- a yes-or-no, seven bits
    ∷ (d.answer_mark, 2 ^ 1)
    ∷ (d.command, 2 ^ 7)
    ∷ []

-- every number is below its bound
abbrev pub all_below : List (ℕ × ℕ) → Bool
all_below [] = true
all_below (row ∷ rows) = ltb row.0 row.1 && all_below rows

-- sound is exactly this; each step leaves a sound record sound; pin levels do if they are five bits
pub record Soundness : Type 0 where
  pub exactly : (d : Device) → sound_of d ≡ all_below (bounds d)
  pub at_power_up : (fitted : ℕ) → sound_of (with_fitted power_up fitted) ≡ true
  pub after_write : (d : Device) (r : Register) (v : ℕ) → sound_of d ≡ true → sound_of (with_registers d (written d.registers r v)) ≡ true
  pub after_read : (d : Device) (r : Register) → sound_of d ≡ true → sound_of (with_registers d (after_read d.registers r)) ≡ true
  pub after_word : (d : Device) (w : ℕ) → sound_of d ≡ true → sound_of (taken d w) ≡ true
  pub after_scan : (x : Device) (a b c d : ℕ) → sound_of x ≡ true → sound_of (scanned x a b c d) ≡ true
  pub after_pins : (d : Device) (levels : ℕ) → levels < 32 → sound_of d ≡ true → sound_of (with_pins d levels) ≡ true
  pub after_clocks : (d : Device) (clocks : ℕ) → sound_of d ≡ true → sound_of (clocked d clocks) ≡ true
  pub after_commanded : (d : Device) (v : ℕ) → sound_of d ≡ true → sound_of (commanded d v) ≡ true
  pub after_received : (d : Device) (v : ℕ) → sound_of d ≡ true → sound_of (received d v) ≡ true
  pub after_sent : (d : Device) → sound_of d ≡ true → sound_of (sent d) ≡ true
