-- Believed: document 01, "Bench examples", those of one driver, and more by its headings, and document 02, request 8: what the definitions give beside
-- what the documents say.
-- Assumes nothing.
use Rattle.std.specs.Prelude.{ℕ, ◌/◌, ◌%◌, List, [], ◌∷◌, map}
use Rattle.ground.specs.Choice.{if}
use Rattle.ground.specs.Lists.{Agree}
use Rattle.device.specs.Record.{with_pins, with_mark, with_command, with_family}
use Rattle.device.specs.PowerUp.{power_up, power_up6957}
use Rattle.device.specs.Taken.{taken}
use Rattle.device.specs.Families.{takes, pinned, interrupt_of, sound_record}
use Rattle.device.specs.Steps.{scanned, clocked}
use Rattle.device.specs.Table15.{after_words, full}
use Rattle.device.specs.declared.Device.{Device}

-- what a driver alone on the wire answers to words: the shift word that each finds
abbrev pub answers : Device → List ℕ → List ℕ
answers d [] = []
answers d (w ∷ ws) = d.shift ∷ answers (takes d w) ws

-- the debounced keys of group A as the word 8800 reads them after each scan of that group
abbrev pub reports : Device → List ℕ → List ℕ
reports d [] = []
reports d (keys ∷ scans) =
    (taken (scanned d keys 0 0 0) 0x8800).shift % 256 ∷ reports (taken (scanned d keys 0 0 0) 0x8800) scans

-- bit P as the word 8400 reads it after master clocks
abbrev pub phase_read : Device → ℕ → ℕ
phase_read d clocks = (taken (clocked d clocks) 0x8400).shift / 128 % 2

-- the data that each read word finds, each on the same driver
abbrev pub found : Device → List ℕ → List ℕ
found d ws = map (λ w. (taken d w).shift % 256) ws

-- the same keys closed in two scans: one of group A, the second of B, the third of C, the fourth of D
abbrev pub twice : Device → Device
twice d = scanned (scanned d 1 2 4 8) 1 2 4 8

-- "Bench examples"
abbrev pub rows : List (List ℕ × List ℕ)
rows =
    -- 1: answers 0000, 0401, 8481
    (answers power_up (0x0401 ∷ 0x8400 ∷ 0x0000 ∷ []), 0x0000 ∷ 0x0401 ∷ 0x8481 ∷ [])
    -- 8: a key closed in three scans is debounced at the second only; open, closed, closed: again
    ∷ (reports (taken power_up 0x0620) (1 ∷ 1 ∷ 1 ∷ 0 ∷ 1 ∷ 1 ∷ []), 0 ∷ 1 ∷ 0 ∷ 0 ∷ 0 ∷ 1 ∷ [])
    -- 9: slow, counts 1,999,999 and 2,000,000: P reads 1, 0; fast, 1,000,000: 0
    ∷ (
      phase_read power_up 1999999 ∷ phase_read power_up 2000000 ∷ phase_read (taken power_up 0x0404) 1000000 ∷ [],
      1 ∷ 0 ∷ 0 ∷ [],
    )
    ∷ []

-- "Registers", written and then read
abbrev pub register_rows : List (List ℕ × List ℕ)
register_rows =
    -- 0x00 no-op, reads 0; 0x18, 0x30, 0x50 and 0x70 are unlisted; masks and digit type can't be read, 0x60+d reads 0 (Table 6)
    (
      found full (0x8000 ∷ 0x8800 ∷ 0x8B00 ∷ 0x8C00 ∷ 0x9800 ∷ 0xB000 ∷ 0xD000 ∷ 0xE000 ∷ 0xEF00 ∷ 0xF000 ∷ []),
      0 ∷ 0 ∷ 0 ∷ 0 ∷ 0 ∷ 0 ∷ 0 ∷ 0 ∷ 0 ∷ 0 ∷ [],
    )
    -- unused bits read 0: 0x01 to 0x05, 0x07 and 0x10 written with FF, 0x05 as outputs; P I 0 0 E B 0 S
    ∷ (
      found (taken full 0x0600) (0x8100 ∷ 0x8200 ∷ 0x8300 ∷ 0x8400 ∷ 0x8500 ∷ 0x8700 ∷ 0x9000 ∷ []),
      0xFF ∷ 0x0F ∷ 0x07 ∷ 0xCD ∷ 0x1F ∷ 0x01 ∷ 0xFF ∷ [],
    )
    -- 0x60+d writes both planes; R sets their bytes to 0, the intensities stay
    ∷ (found (after_words power_up (0x6055 ∷ 0x1077 ∷ [])) (0xA000 ∷ 0xC000 ∷ 0x9000 ∷ []), 0x55 ∷ 0x55 ∷ 0x77 ∷ [])
    ∷ (found (after_words power_up (0x6055 ∷ 0x1077 ∷ 0x0420 ∷ [])) (0xA000 ∷ 0xC000 ∷ 0x9000 ∷ []), 0 ∷ 0 ∷ 0x77 ∷ [])
    -- pin levels given are what inputs read
    ∷ (found (pinned power_up 0x0A) (0x8500 ∷ []), 0x0A ∷ [])
    -- T sets the blink count to 0
    ∷ (map (λ n. phase_read (taken (clocked power_up 5) 0x0410) n) (1999999 ∷ 2000000 ∷ []), 1 ∷ 0 ∷ [])
    ∷ []

-- "Keys", by what is read
abbrev pub key_rows : List (List ℕ × List ℕ)
key_rows =
    -- 0x08..0x0B debounced keys, 0x0C..0x0F pressed keys A to D: of four groups, of three, and with D7 to D5 of 7
    (
      found (twice (taken power_up 0x0680)) (0x8800 ∷ 0x8900 ∷ 0x8A00 ∷ 0x8B00 ∷ 0x8C00 ∷ 0x8D00 ∷ 0x8E00 ∷ 0x8F00 ∷ []),
      1 ∷ 2 ∷ 4 ∷ 8 ∷ 1 ∷ 2 ∷ 4 ∷ 8 ∷ [],
    )
    ∷ (found (twice (taken power_up 0x0660)) (0x8A00 ∷ 0x8B00 ∷ 0x8F00 ∷ []), 4 ∷ 0 ∷ 0 ∷ [])
    ∷ (found (twice (taken power_up 0x06E0)) (0x8B00 ∷ 0x8F00 ∷ []), 8 ∷ 8 ∷ [])
    -- each mask raises the interrupt, P4, for the keys of its own group; writes to 0x0D..0x0F do nothing
    ∷ (
      map (λ w. (taken (twice (after_words power_up (0x0680 ∷ w ∷ []))) 0x8500).shift % 256) (0x0801 ∷ 0x0902 ∷ 0x0A04 ∷ 0x0B08 ∷ 0x0802 ∷ 0x0B04 ∷ 0x0D08 ∷ []),
      16 ∷ 16 ∷ 16 ∷ 16 ∷ 0 ∷ 0 ∷ 0 ∷ [],
    )
    -- the interrupt of a key whose mask bit is set, at the second scan
    ∷ (
      map interrupt_of (scanned (after_words power_up (0x0680 ∷ 0x0801 ∷ [])) 1 2 4 8 ∷ twice (after_words power_up (0x0680 ∷ 0x0801 ∷ [])) ∷ []),
      0 ∷ 1 ∷ [],
    )
    -- reading any debounced register clears it and the interrupt, and leaves the others
    ∷ (found (taken (twice (after_words power_up (0x0680 ∷ 0x0801 ∷ []))) 0x8900) (0x8500 ∷ 0x8800 ∷ 0x8900 ∷ []), 0 ∷ 1 ∷ 0 ∷ [])
    ∷ []

-- request 8: a MAX6957 that watches P24, its pin low
abbrev pub watching : Device
watching = takes (takes power_up6957 0x0601) 0x0481

-- request 8, of a MAX6957
abbrev pub family_rows : List (List ℕ × List ℕ)
family_rows =
    -- it obeys by 004: global current of four bits, 0x20 no port, the mark of a read
    (answers power_up6957 (0x02F3 ∷ 0x8200 ∷ 0x2007 ∷ 0xA000 ∷ 0x0000 ∷ []), 0x0000 ∷ 0x02F3 ∷ 0x8203 ∷ 0x2007 ∷ 0xA000 ∷ [])
    ∷ (map (λ w. (takes power_up6957 w).answer_mark) (0x8200 ∷ 0x0203 ∷ []), 1 ∷ 0 ∷ [])
    -- pin levels of P24 raise INT, and a read of the mask clears it; a driver of the old family is not a MAX6957
    ∷ (map interrupt_of (watching ∷ pinned watching 0x100000 ∷ takes (pinned watching 0x100000) 0x8600 ∷ []), 0 ∷ 1 ∷ 0 ∷ [])
    ∷ (power_up.family ∷ power_up6957.family ∷ [], 0 ∷ 1 ∷ [])
    ∷ []

-- request 8: sound by its own family's fields and the answer mark; of an unknown family nothing is tested
abbrev pub sound_rows : List (List ℕ × List ℕ)
sound_rows =
    -- of a MAX6957: an answer mark of 2, 29 pin levels; a command address of 128, a pin level of the old family
    (
      map (λ d. if (sound_record d) 1 0) (with_mark power_up6957 2 ∷ pinned power_up6957 0x10000000 ∷ with_command power_up6957 128 ∷ with_pins power_up6957 32 ∷ []),
      0 ∷ 0 ∷ 1 ∷ 1 ∷ [],
    )
    -- of family 2, and of the old one
    ∷ (map (λ d. if (sound_record d) 1 0) (with_family (with_mark power_up 2) 2 ∷ with_pins power_up 32 ∷ []), 1 ∷ 0 ∷ [])
    ∷ []

-- what the definitions give is what the documents say
pub record Examples : Type 0 where
  pub bench : Agree rows
  pub registers : Agree register_rows
  pub keys : Agree key_rows
  pub families : Agree family_rows
  pub sound : Agree sound_rows
