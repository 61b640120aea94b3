-- Believed: document 02, request 8, with document 01, "What the double covers" and "Bits on the wire", for drivers of both families: accepted steps leave
-- sound records, the shift word and the answer mark after a word, and that nothing that a driver is given changes its family or the other family's registers.
-- Assumes nothing.
use Rattle.std.specs.Prelude.{ℕ, ◌/◌, ◌%◌, ◌<◌, true, false, ◌≡◌}
use Rattle.ground.specs.Choice.{if, bit}
use Rattle.device.specs.Record.{with_fitted}
use Rattle.device.specs.PowerUp.{power_up, power_up6957}
use Rattle.device.specs.Taken.{answer_word}
use Rattle.device.specs.Steps.{scanned, clocked}
use Rattle.device.specs.TwoWire.{commanded, received, sent}
use Rattle.device.specs.Families.{takes, pinned, data_at, sound_record}
use Rattle.device.specs.declared.Device.{Device}

-- each step leaves a sound record sound; pin levels do if they are five bits, or 28 of a MAX6957
pub record SoundSteps : Type 0 where
  pub at_power_up : (fitted : ℕ) → (sound_record (with_fitted power_up fitted) ≡ true) × (sound_record (with_fitted power_up6957 fitted) ≡ true)
  pub after_word : (d : Device) (w : ℕ) → sound_record d ≡ true → sound_record (takes d w) ≡ true
  pub after_scan : (x : Device) (a b c d : ℕ) → sound_record x ≡ true → sound_record (scanned x a b c d) ≡ true
  pub after_pins : (d : Device) (l : ℕ) → (d.family ≡ 0 → l < 32) → (d.family ≡ 1 → l < 268435456) → sound_record d ≡ true → sound_record (pinned d l) ≡ true
  pub after_clocks : (d : Device) (clocks : ℕ) → sound_record d ≡ true → sound_record (clocked d clocks) ≡ true
  pub after_commanded : (d : Device) (v : ℕ) → sound_record d ≡ true → sound_record (commanded d v) ≡ true
  pub after_received : (d : Device) (v : ℕ) → sound_record d ≡ true → sound_record (received d v) ≡ true
  pub after_sent : (d : Device) → sound_record d ≡ true → sound_record (sent d) ≡ true

-- the shift word and the answer mark, whatever the family
pub record WordTaken : Type 0 where
  pub after_write : (d : Device) (w : ℕ) → bit 15 w ≡ false → (takes d w).shift ≡ w
  pub after_read : (d : Device) (w : ℕ) → bit 15 w ≡ true → (takes d w).shift ≡ answer_word w (data_at d (w / 256 % 128))
  pub marked : (d : Device) (w : ℕ) → (takes d w).answer_mark ≡ if (bit 15 w) 1 0

-- what d and e have alike
pub record Kept (d e : Device) : Type 0 where
  pub family : e.family ≡ d.family
  pub fitted : e.fitted ≡ d.fitted
  -- the other family's registers
  pub ports : (d.family ≡ 1 → ⊥) → e.ports ≡ d.ports

-- of every driver
pub record BothFamilies : Type 0 where
  pub sound : SoundSteps
  pub word : WordTaken
  pub by_word : (d : Device) (w : ℕ) → Kept d (takes d w)
  pub by_scan : (x : Device) (a b c d : ℕ) → Kept x (scanned x a b c d)
  pub by_pins : (d : Device) (l : ℕ) → Kept d (pinned d l)
  pub by_clocks : (d : Device) (clocks : ℕ) → Kept d (clocked d clocks)
  pub by_commanded : (d : Device) (v : ℕ) → Kept d (commanded d v)
  pub by_received : (d : Device) (v : ℕ) → Kept d (received d v)
  pub by_sent : (d : Device) → Kept d (sent d)
  -- of a MAX6957 the old family's registers and the command address
  pub registers_by_word : (d : Device) (w : ℕ) → d.family ≡ 1 → (takes d w).registers ≡ d.registers
  pub registers_by_pins : (d : Device) (l : ℕ) → d.family ≡ 1 → (pinned d l).registers ≡ d.registers
  pub command_by_word : (d : Device) (w : ℕ) → (takes d w).command ≡ d.command
