-- Believed: document 01, "Registers" and "What the double covers": the width of each control register, that each is itself alone, and the bits of the
-- configuration register.
-- Assumes nothing.
use Rattle.std.specs.Prelude.{ℕ, ◌+◌, ◌*◌, ◌%◌, ◌^◌, ◌<◌, Bool, true, ◌&&◌, [], ◌∷◌, map, ◌≢◌, ◌≡◌, eqb}
use Rattle.std.specs.Int.Bits.{bit_and}
use Rattle.words.specs.declared.Plane.{Plane}
use Rattle.words.specs.declared.Plane.TheVariants.{P0, P1}
use Rattle.words.specs.declared.ControlRegister.{ControlRegister}
use Rattle.words.specs.declared.ControlRegister.TheVariants.{DecodeMode, GlobalIntensity, ScanLimit, GpioData, PortConfiguration, DisplayTest, DigitType}
use Rattle.controls.specs.Controls.{control_written, control_data, sound_controls}
use Rattle.controls.specs.Config.{config_of, phase_bit, config_data, sound_config}
use Rattle.controls.specs.declared.Controls.{Controls}
use Rattle.controls.specs.declared.Config.{Config}

-- the bits of a register: global intensity 4, scan limit 3, GPIO data 5 (Table 30), display test 1
abbrev pub width_of : ControlRegister → ℕ
width_of DecodeMode = 8
width_of GlobalIntensity = 4
width_of ScanLimit = 3
width_of GpioData = 5
width_of PortConfiguration = 8
width_of DisplayTest = 1
width_of DigitType = 8

-- what a register stores
abbrev pub stored_in : Controls → ControlRegister → ℕ
stored_in x DecodeMode = x.decode
stored_in x GlobalIntensity = x.global
stored_in x ScanLimit = x.limit
stored_in x GpioData = x.gpio
stored_in x PortConfiguration = x.ports
stored_in x DisplayTest = x.test
stored_in x DigitType = x.types

-- the address of a register (Table 6)
abbrev pub address_of : ControlRegister → ℕ
address_of DecodeMode = 0x01
address_of GlobalIntensity = 0x02
address_of ScanLimit = 0x03
address_of GpioData = 0x05
address_of PortConfiguration = 0x06
address_of DisplayTest = 0x07
address_of DigitType = 0x0C

-- a number of one bit
abbrev pub one_bit : ℕ → Bool
one_bit n = eqb (n % 2) n

-- every register by its width
pub record Widths : Type 0 where
  -- a write stores the bits that the register has
  pub stored : (x : Controls) (c : ControlRegister) (v : ℕ) → v < 256 → stored_in (control_written x c v) c ≡ v % 2 ^ width_of c
  -- and leaves the other registers
  pub others : (x : Controls) (c o : ControlRegister) (v : ℕ) → address_of o ≢ address_of c → stored_in (control_written x c v) o ≡ stored_in x o
  -- as read each gives what it stores, but GPIO data, and digit type, which can't be read
  pub stored_data : (x : Controls) (g : ℕ) → map (λ c. control_data x c g) (DecodeMode ∷ GlobalIntensity ∷ ScanLimit ∷ PortConfiguration ∷ DisplayTest ∷ [])
      ≡ map (stored_in x) (DecodeMode ∷ GlobalIntensity ∷ ScanLimit ∷ PortConfiguration ∷ DisplayTest ∷ [])
  pub ports_data : (x : Controls) (g : ℕ) → control_data x GpioData g ≡ g
  pub no_data : (x : Controls) (g : ℕ) → control_data x DigitType g ≡ 0
  -- sound: exactly when each fits; those of eight bits do by their type
  pub fits : (x : Controls) → sound_controls x ≡ true → (c : ControlRegister) → width_of c < 8 → stored_in x c < 2 ^ width_of c
  pub sound : (x : Controls) → ((c : ControlRegister) → stored_in x c < 2 ^ width_of c) → sound_controls x ≡ true
  -- configuration, bits P I R T E B X S: I, E, B and S each alone
  pub alone : map config_of (0x40 ∷ 0x08 ∷ 0x04 ∷ 0x01 ∷ [])
      ≡ record { i = 1; e = 0; b = 0; s = 0 }
      ∷ record { i = 0; e = 1; b = 0; s = 0 }
      ∷ record { i = 0; e = 0; b = 1; s = 0 }
      ∷ record { i = 0; e = 0; b = 0; s = 1 }
      ∷ []
  -- as read P I 0 0 E B 0 S
  pub read : (v : ℕ) (phase : Plane) → v < 256 → config_data (config_of v) phase ≡ phase_bit phase * 128 + bit_and v 0x4D
  -- Table 24: P reads 1 in the P0 phase, 0 in the P1 phase
  pub phases : map phase_bit (P0 ∷ P1 ∷ []) ≡ 1 ∷ 0 ∷ []
  -- sound: exactly when each of the four is one bit
  pub sound_bits : (x : Config) → sound_config x ≡ (one_bit x.i && one_bit x.e && one_bit x.b && one_bit x.s)
