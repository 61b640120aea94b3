-- Believed: Table 6, the register address map, row by row in its order; document 01, "Registers": addresses follow Table 6.
-- Assumes nothing.
use Rattle.std.specs.Prelude.{ℕ, ◌+◌, ◌*◌, ◌<◌, List, [], ◌∷◌, ◌++◌, map, ◌≡◌}
use Rattle.ground.specs.Lists.{tabulate}
use Rattle.words.specs.Addresses.{written_at, read_at, word_of}
use Rattle.words.specs.declared.Plane.TheVariants.{P0, P1}
use Rattle.words.specs.declared.KeyGroup.TheVariants.{A, B, C, D}
use Rattle.words.specs.declared.ControlRegister.TheVariants.{DecodeMode, GlobalIntensity, ScanLimit, GpioData, PortConfiguration, DisplayTest, DigitType}
use Rattle.words.specs.declared.Register.{Register}
use Rattle.words.specs.declared.Register.TheVariants.{NoOp, Control, Configuration, KeyMask, KeyDebounced, KeyPressed, Intensity, Digit, BothPlanes, Unlisted}
use Rattle.words.specs.declared.Word.TheVariants.{Write, Read}

-- a row: the hex code, the register as written, the register as read. "Do NOT write" at 0x0D to 0x0F: writes there do nothing
abbrev pub table6 : List (ℕ × Register × Register)
table6 =
    (0x00, NoOp, NoOp)
    ∷ (0x01, Control DecodeMode, Control DecodeMode)
    ∷ (0x02, Control GlobalIntensity, Control GlobalIntensity)
    ∷ (0x03, Control ScanLimit, Control ScanLimit)
    ∷ (0x04, Configuration, Configuration)
    ∷ (0x05, Control GpioData, Control GpioData)
    ∷ (0x06, Control PortConfiguration, Control PortConfiguration)
    ∷ (0x07, Control DisplayTest, Control DisplayTest)
    ∷ (0x08, KeyMask A, KeyDebounced A)
    ∷ (0x09, KeyMask B, KeyDebounced B)
    ∷ (0x0A, KeyMask C, KeyDebounced C)
    ∷ (0x0B, KeyMask D, KeyDebounced D)
    ∷ (0x0C, Control DigitType, KeyPressed A)
    ∷ (0x0D, Unlisted, KeyPressed B)
    ∷ (0x0E, Unlisted, KeyPressed C)
    ∷ (0x0F, Unlisted, KeyPressed D)
    ∷ (0x10, Intensity 0, Intensity 0)
    ∷ (0x11, Intensity 1, Intensity 1)
    ∷ (0x12, Intensity 2, Intensity 2)
    ∷ (0x13, Intensity 3, Intensity 3)
    ∷ (0x14, Intensity 4, Intensity 4)
    ∷ (0x15, Intensity 5, Intensity 5)
    ∷ (0x16, Intensity 6, Intensity 6)
    ∷ (0x17, Intensity 7, Intensity 7)
    ∷ (0x20, Digit P0 0, Digit P0 0)
    ∷ (0x21, Digit P0 1, Digit P0 1)
    ∷ (0x22, Digit P0 2, Digit P0 2)
    ∷ (0x23, Digit P0 3, Digit P0 3)
    ∷ (0x24, Digit P0 4, Digit P0 4)
    ∷ (0x25, Digit P0 5, Digit P0 5)
    ∷ (0x26, Digit P0 6, Digit P0 6)
    ∷ (0x27, Digit P0 7, Digit P0 7)
    ∷ (0x28, Digit P0 8, Digit P0 8)
    ∷ (0x29, Digit P0 9, Digit P0 9)
    ∷ (0x2A, Digit P0 10, Digit P0 10)
    ∷ (0x2B, Digit P0 11, Digit P0 11)
    ∷ (0x2C, Digit P0 12, Digit P0 12)
    ∷ (0x2D, Digit P0 13, Digit P0 13)
    ∷ (0x2E, Digit P0 14, Digit P0 14)
    ∷ (0x2F, Digit P0 15, Digit P0 15)
    ∷ (0x40, Digit P1 0, Digit P1 0)
    ∷ (0x41, Digit P1 1, Digit P1 1)
    ∷ (0x42, Digit P1 2, Digit P1 2)
    ∷ (0x43, Digit P1 3, Digit P1 3)
    ∷ (0x44, Digit P1 4, Digit P1 4)
    ∷ (0x45, Digit P1 5, Digit P1 5)
    ∷ (0x46, Digit P1 6, Digit P1 6)
    ∷ (0x47, Digit P1 7, Digit P1 7)
    ∷ (0x48, Digit P1 8, Digit P1 8)
    ∷ (0x49, Digit P1 9, Digit P1 9)
    ∷ (0x4A, Digit P1 10, Digit P1 10)
    ∷ (0x4B, Digit P1 11, Digit P1 11)
    ∷ (0x4C, Digit P1 12, Digit P1 12)
    ∷ (0x4D, Digit P1 13, Digit P1 13)
    ∷ (0x4E, Digit P1 14, Digit P1 14)
    ∷ (0x4F, Digit P1 15, Digit P1 15)
    ∷ (0x60, BothPlanes 0, BothPlanes 0)
    ∷ (0x61, BothPlanes 1, BothPlanes 1)
    ∷ (0x62, BothPlanes 2, BothPlanes 2)
    ∷ (0x63, BothPlanes 3, BothPlanes 3)
    ∷ (0x64, BothPlanes 4, BothPlanes 4)
    ∷ (0x65, BothPlanes 5, BothPlanes 5)
    ∷ (0x66, BothPlanes 6, BothPlanes 6)
    ∷ (0x67, BothPlanes 7, BothPlanes 7)
    ∷ (0x68, BothPlanes 8, BothPlanes 8)
    ∷ (0x69, BothPlanes 9, BothPlanes 9)
    ∷ (0x6A, BothPlanes 10, BothPlanes 10)
    ∷ (0x6B, BothPlanes 11, BothPlanes 11)
    ∷ (0x6C, BothPlanes 12, BothPlanes 12)
    ∷ (0x6D, BothPlanes 13, BothPlanes 13)
    ∷ (0x6E, BothPlanes 14, BothPlanes 14)
    ∷ (0x6F, BothPlanes 15, BothPlanes 15)
    ∷ []

-- the addresses of seven bits that it doesn't list
abbrev pub unlisted : List ℕ
unlisted =
    tabulate 8 (λ i. 0x18 + i) ++ tabulate 16 (λ i. 0x30 + i) ++ tabulate 16 (λ i. 0x50 + i) ++ tabulate 16 (λ i. 0x70 + i)

-- every address names, as written and as read, what its row says; one without a row names no register
pub record Table6 : Type 0 where
  pub as_written : map (λ (row : ℕ × Register × Register). written_at row.0) table6 ≡ map (λ (row : ℕ × Register × Register). row.1) table6
  pub as_read : map (λ (row : ℕ × Register × Register). read_at row.0) table6 ≡ map (λ (row : ℕ × Register × Register). row.2) table6
  pub others_written : map written_at unlisted ≡ map (λ a. Unlisted) unlisted
  pub others_read : map read_at unlisted ≡ map (λ a. Unlisted) unlisted
  -- D14 to D8 of a word are the address, D7 to D0 the data of a write; D15 is 1 for a read
  pub write_words : (a v : ℕ) → a < 128 → v < 256 → word_of (a * 256 + v) ≡ Write (written_at a) v
  pub read_words : (a v : ℕ) → a < 128 → v < 256 → word_of (0x8000 + a * 256 + v) ≡ Read (read_at a)
