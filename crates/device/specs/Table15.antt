-- Believed: Table 15, initial power-up register status, row by row in its order; document 01, "What the double covers": the power-up record.
-- Assumes nothing.
use Rattle.std.specs.Prelude.{ℕ, ◌+◌, ◌*◌, ◌%◌, List, [], ◌∷◌, map, ◌≡◌}
use Rattle.words.specs.declared.KeyGroup.{KeyGroup}
use Rattle.words.specs.declared.KeyGroup.TheVariants.{A, B, C, D}
use Rattle.keys.specs.Keys.{group_of}
use Rattle.device.specs.PowerUp.{power_up}
use Rattle.device.specs.Taken.{taken}
use Rattle.device.specs.declared.Device.{Device}

-- a row that is written: the address code and the register data, X as 0. P of the configuration register, the table's "Control Register", is not stored (DECISIONS 8)
abbrev pub table15 : List (ℕ × ℕ)
table15 =
    -- decode mode, global intensity, scan limit, configuration, GPIO data, port configuration, display test
    (0x01, 0xFF)
    ∷ (0x02, 0x00)
    ∷ (0x03, 0x07)
    ∷ (0x04, 0x00)
    ∷ (0x05, 0x00)
    ∷ (0x06, 0x1F)
    ∷ (0x07, 0x00)
    -- Key_A to Key_D mask, digit type
    ∷ (0x08, 0x00)
    ∷ (0x09, 0x00)
    ∷ (0x0A, 0x00)
    ∷ (0x0B, 0x00)
    ∷ (0x0C, 0x00)
    -- intensities 10, 32, 54, 76, 10a, 32a, 54a, 76a: 1/16
    ∷ (0x10, 0x00)
    ∷ (0x11, 0x00)
    ∷ (0x12, 0x00)
    ∷ (0x13, 0x00)
    ∷ (0x14, 0x00)
    ∷ (0x15, 0x00)
    ∷ (0x16, 0x00)
    ∷ (0x17, 0x00)
    -- digits 0 to 7, both planes
    ∷ (0x60, 0x20)
    ∷ (0x61, 0x20)
    ∷ (0x62, 0x20)
    ∷ (0x63, 0x20)
    ∷ (0x64, 0x20)
    ∷ (0x65, 0x20)
    ∷ (0x66, 0x20)
    ∷ (0x67, 0x20)
    -- digits 0a to 7a, both planes
    ∷ (0x68, 0x00)
    ∷ (0x69, 0x00)
    ∷ (0x6A, 0x00)
    ∷ (0x6B, 0x00)
    ∷ (0x6C, 0x00)
    ∷ (0x6D, 0x00)
    ∷ (0x6E, 0x00)
    ∷ (0x6F, 0x00)
    ∷ []

-- a row that is only read: keys debounced and pressed
abbrev pub reports15 : List (ℕ × ℕ)
reports15 =
    -- Key_A to Key_D debounced
    (0x88, 0x00)
    ∷ (0x89, 0x00)
    ∷ (0x8A, 0x00)
    ∷ (0x8B, 0x00)
    -- Key_A to Key_D pressed
    ∷ (0x8C, 0x00)
    ∷ (0x8D, 0x00)
    ∷ (0x8E, 0x00)
    ∷ (0x8F, 0x00)
    ∷ []

-- words taken one after the other
abbrev pub after_words : Device → List ℕ → Device
after_words d [] = d
after_words d (w ∷ ws) = after_words (taken d w) ws

-- a driver whose every register was written with ones
abbrev pub full : Device
full = after_words power_up (map (λ (row : ℕ × ℕ). row.0 * 256 + 0xFF) table15)

-- the power-up record
pub record Table15 : Type 0 where
  -- the rows, written into a driver that holds ones, give its registers
  pub rows_written : (after_words full (map (λ (row : ℕ × ℕ). row.0 * 256 + row.1) table15)).registers ≡ power_up.registers
  -- the reports read so
  pub rows_read : map (λ (row : ℕ × ℕ). (taken power_up (row.0 * 256)).shift % 256) reports15 ≡ map (λ (row : ℕ × ℕ). row.1) reports15
  -- shift word, blink count, pins and the interrupt 0, fitted 255; document 02, requests 1 and 3: the answer mark and the command address 0
  pub beside : power_up.shift ∷ power_up.registers.blink ∷ power_up.registers.pins ∷ power_up.registers.keys.interrupt ∷ power_up.fitted ∷ power_up.answer_mark ∷ power_up.command ∷ []
      ≡ 0 ∷ 0 ∷ 0 ∷ 0 ∷ 255 ∷ 0 ∷ 0 ∷ []
  -- no key is held
  pub held : map (λ (g : KeyGroup). (group_of power_up.registers.keys g).held) (A ∷ B ∷ C ∷ D ∷ []) ≡ 0 ∷ 0 ∷ 0 ∷ 0 ∷ []
