-- Believed: document 01, "Segments and brightness" and Tables 12 to 14: each bit of digit type, fitted byte and decode mode is its own cathode's, and what
-- a cathode shows goes by these, its own digits' bytes and display test alone.
-- Assumes nothing.
use Rattle.std.specs.Prelude.{ℕ, ◌+◌, ◌^◌, ◌<◌, List, [], ◌∷◌, map, ◌≢◌, ◌≡◌, eqb, get_or, replicate}
use Rattle.ground.specs.Choice.{if, bit}
use Rattle.refusals.specs.Refusals.{segments_refusal}
use Rattle.words.specs.declared.Register.TheVariants.{Digit}
use Rattle.registers.specs.Registers.{data_of}
use Rattle.device.specs.Steps.{shown_plane}
use Rattle.device.specs.declared.Device.{Device}
use Rattle.wiring.specs.declared.Display.TheVariants.{Sixteen, Fourteen, SevenPair}
use Rattle.brightness.specs.Dark.{test_on, dark}
use Rattle.display.specs.Cathode.{display_by, display_of, shown_byte, hex_mode}
use Rattle.display.specs.Pins.{pin_code, pin_at, segments_of}
use Rattle.display.specs.declared.Pin.TheVariants.{NotDriven, Cathode, Lit, Unlit, NoSegment}

-- cathode d of two drivers alike: test, darkness, its bits and digit d's byte
pub record Alike (x y : Device) (d : ℕ) : Type 0 where
  pub test : test_on x ≡ test_on y
  pub darkness : dark x d ≡ dark y d
  pub decode : bit d x.registers.controls.decode ≡ bit d y.registers.controls.decode
  pub types : bit d x.registers.controls.types ≡ bit d y.registers.controls.types
  pub fitted : bit d x.fitted ≡ bit d y.fitted
  pub byte : shown_byte x d ≡ shown_byte y d

-- for every cathode c, and every cathode d beside it
pub record OwnCathode : Type 0 where
  -- Tables 12 and 13: bit c of the digit type alone makes cathode c alone 14-segment, whatever is fitted there; bit c of the fitted byte alone a pair
  pub digit_type : (c d : ℕ) → c < 8 → d < 8 → display_by (2 ^ c) 0 d ≡ if (eqb c d) Fourteen Sixteen
  pub fitted_type : (c d : ℕ) → c < 8 → d < 8 → display_by (2 ^ c) (2 ^ c) d ≡ if (eqb c d) Fourteen Sixteen
  pub fitted_pair : (c d : ℕ) → c < 8 → d < 8 → display_by 0 (2 ^ c) d ≡ if (eqb c d) SevenPair Sixteen
  -- Table 14: bit c of the decode mode alone decodes at cathode c alone
  pub decode_mode : (x : Device) (c d : ℕ) → c < 8 → d < 8 → x.registers.controls.decode ≡ 2 ^ c → hex_mode x d ≡ eqb c d
  -- the byte that a digit shows is the one read in the plane shown
  pub own_byte : (x : Device) (i : ℕ) → shown_byte x i ≡ data_of x.registers (Digit (shown_plane x) i)
  -- the pins of alike cathodes are alike: of a pair where digit da's bytes are too, of the others in any case
  pub pair_pins : (x y : Device) (d p : ℕ) (font14 font16 : List ℕ) → Alike x y d → shown_byte x (d + 8) ≡ shown_byte y (d + 8)
      → pin_at x d font14 font16 p ≡ pin_at y d font14 font16 p
  pub other_pins : (x y : Device) (d p : ℕ) (font14 font16 : List ℕ) → Alike x y d → display_of x d ≢ SevenPair
      → pin_at x d font14 font16 p ≡ pin_at y d font14 font16 p
  -- an answer has pin Op at place p; a refused one no pin driven
  pub answered : (x : Device) (d p : ℕ) (font14 font16 : List ℕ) → segments_refusal d font14 font16 ≡ 0 → p < 19
      → get_or (segments_of x d font14 font16).pins p 0 ≡ pin_code (pin_at x d font14 font16 p)
  pub refused : (x : Device) (d : ℕ) (font14 font16 : List ℕ) → segments_refusal d font14 font16 ≡ 6
      → segments_of x d font14 font16 ≡ record { number = 6; pins = replicate 19 0 }
  -- the numbers in an answer
  pub numbers : map pin_code (NotDriven ∷ Cathode ∷ Lit ∷ Unlit ∷ NoSegment ∷ []) ≡ 0 ∷ 1 ∷ 2 ∷ 3 ∷ 4 ∷ []
