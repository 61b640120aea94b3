-- Believed: document 01, "Bits on the wire": a word is a write or a read, and names one kind of register; "Registers": addresses follow Table 6.
-- Assumes nothing.
use Rattle.std.specs.Prelude.{ℕ, ◌/◌, ◌%◌, List, [], ◌∷◌, eqb, ltb, get_or}
use Rattle.ground.specs.Choice.{if}
use Rattle.words.specs.declared.Plane.TheVariants.{P0, P1}
use Rattle.words.specs.declared.KeyGroup.TheVariants.{A, B, C, D}
use Rattle.words.specs.declared.ControlRegister.TheVariants.{DecodeMode, GlobalIntensity, ScanLimit, GpioData, PortConfiguration, DisplayTest, DigitType}
use Rattle.words.specs.declared.Register.{Register}
use Rattle.words.specs.declared.Register.TheVariants.{NoOp, Control, Configuration, KeyMask, KeyDebounced, KeyPressed, Intensity, Digit, BothPlanes, Unlisted}
use Rattle.words.specs.declared.Word.{Word}
use Rattle.words.specs.Decoded.{decoded}

-- 0x00 to 0x07, in order: alike written and read
abbrev pub low_alike : List Register
low_alike =
    NoOp
    ∷ Control DecodeMode
    ∷ Control GlobalIntensity
    ∷ Control ScanLimit
    ∷ Configuration
    ∷ Control GpioData
    ∷ Control PortConfiguration
    ∷ Control DisplayTest
    ∷ []

-- 0x08 to 0x0F as written, in order: key masks A to D, digit type; writes to 0x0D..0x0F do nothing
abbrev pub low_written : List Register
low_written =
    KeyMask A ∷ KeyMask B ∷ KeyMask C ∷ KeyMask D ∷ Control DigitType ∷ Unlisted ∷ Unlisted ∷ Unlisted ∷ []

-- 0x08 to 0x0F as read, in order: debounced keys A to D, pressed keys A to D
abbrev pub low_read : List Register
low_read =
    KeyDebounced A
    ∷ KeyDebounced B
    ∷ KeyDebounced C
    ∷ KeyDebounced D
    ∷ KeyPressed A
    ∷ KeyPressed B
    ∷ KeyPressed C
    ∷ KeyPressed D
    ∷ []

-- 0x10..0x17 intensities, 0x20+d plane P0, 0x40+d plane P1, 0x60+d both: an address by its two hexadecimal digits
abbrev pub high_register : ℕ → ℕ → Register
high_register row column =
    if (eqb row 1) (if (ltb column 8) (Intensity column) Unlisted)
    (if (eqb row 2) (Digit P0 column) (if (eqb row 4) (Digit P1 column) (if (eqb row 6) (BothPlanes column) Unlisted)))

-- an address other than 0x08 to 0x0F
abbrev pub alike_at : ℕ → Register
alike_at a = if (ltb a 8) (get_or low_alike a NoOp) (high_register (a / 16) (a % 16))

-- the register that a write to an address reaches
abbrev pub written_at : ℕ → Register
written_at a = if (eqb (a / 8) 1) (get_or low_written (a % 8) NoOp) (alike_at a)

-- the register that a read of an address reaches
abbrev pub read_at : ℕ → Register
read_at a = if (eqb (a / 8) 1) (get_or low_read (a % 8) NoOp) (alike_at a)

-- what a word says
abbrev pub word_of : ℕ → Word Register
word_of = decoded written_at read_at
