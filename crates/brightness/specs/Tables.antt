-- Believed: document 01, "Segments and brightness", and document 02, request 5: dark cathodes and brightness beside Tables 25 to 29 and the display test section of 000.
-- Assumes nothing.
use Rattle.std.specs.Prelude.{ℕ, ◌<◌, ◌≤◌, true, false, List, [], ◌∷◌, map, ◌≡◌}
use Rattle.ground.specs.Choice.{odd}
use Rattle.device.specs.declared.Device.{Device}
use Rattle.brightness.specs.Dark.{test_on, dark}
use Rattle.brightness.specs.Brightness.{own_nibble, sixteenths, ruled_to, cathode_of, brightness_of, ruler_of, ruler_code, brightness_answer}
use Rattle.brightness.specs.declared.Ruler.TheVariants.{Nothing, Global, Own, Test}

-- the nibbles 0 to F, and the digits 0 to 7, 0a to 7a
abbrev pub sixteen_numbers : List ℕ
sixteen_numbers = 0 ∷ 1 ∷ 2 ∷ 3 ∷ 4 ∷ 5 ∷ 6 ∷ 7 ∷ 8 ∷ 9 ∷ 10 ∷ 11 ∷ 12 ∷ 13 ∷ 14 ∷ 15 ∷ []

-- Table 26: the sixteenths of the nibbles 0 to F
abbrev pub table26 : List ℕ
table26 = 1 ∷ 2 ∷ 3 ∷ 4 ∷ 5 ∷ 6 ∷ 7 ∷ 8 ∷ 9 ∷ 10 ∷ 11 ∷ 12 ∷ 13 ∷ 14 ∷ 15 ∷ 15 ∷ []

-- Table 27: Intensity10, 32, 54, 76, 10a, 32a, 54a, 76a, each with its two digits written in, 0a to 7a as 8 to F
abbrev pub table27 : List ℕ
table27 = 0x10 ∷ 0x32 ∷ 0x54 ∷ 0x76 ∷ 0x98 ∷ 0xBA ∷ 0xDC ∷ 0xFE ∷ []

-- for every record
pub record BrightnessTables : Type 0 where
  -- Table 25: normal operation displays digits 0 to the scan limit, and no others
  pub to_the_limit : (x : Device) (d : ℕ) → test_on x ≡ false → odd x.registers.config.s ≡ true → d ≤ x.registers.controls.limit → dark x d ≡ false
  pub above_the_limit : (x : Device) (d : ℕ) → test_on x ≡ false → x.registers.controls.limit < d → dark x d ≡ true
  -- shutdown displays none
  pub in_shutdown : (x : Device) (d : ℕ) → test_on x ≡ false → odd x.registers.config.s ≡ false → dark x d ≡ true
  -- display test all, with 7/16
  pub lit_in_test : (x : Device) (d : ℕ) → test_on x ≡ true → dark x d ≡ false
  pub seven_in_test : (x : Device) (i : ℕ) → test_on x ≡ true → brightness_of x i ≡ 7
  -- Tables 26, 28 and 29
  pub duty_cycles : map sixteenths sixteen_numbers ≡ table26
  -- Table 27: each digit by its own nibble
  pub own_nibbles : map (own_nibble table27) sixteen_numbers ≡ sixteen_numbers
  -- request 5: a digit of a dark cathode has 0, and each other one what its ruler gives; an "a" digit has its cathode's darkness
  pub dark_digit : (x : Device) (i : ℕ) → dark x (cathode_of i) ≡ true → brightness_of x i ≡ 0
  pub lit_digit : (x : Device) (i : ℕ) → dark x (cathode_of i) ≡ false → brightness_of x i ≡ ruled_to x i
  pub cathodes : map cathode_of sixteen_numbers ≡ 0 ∷ 1 ∷ 2 ∷ 3 ∷ 4 ∷ 5 ∷ 6 ∷ 7 ∷ 0 ∷ 1 ∷ 2 ∷ 3 ∷ 4 ∷ 5 ∷ 6 ∷ 7 ∷ []
  -- what rules: display test over I, then I=1 the digit's own, I=0 the global register, dark or not
  pub test_rules : (x : Device) → test_on x ≡ true → ruler_of x ≡ Test
  pub own_rules : (x : Device) → test_on x ≡ false → odd x.registers.config.i ≡ true → ruler_of x ≡ Own
  pub global_rules : (x : Device) → test_on x ≡ false → odd x.registers.config.i ≡ false → ruler_of x ≡ Global
  -- the numbers of what rules
  pub ruler_numbers : map ruler_code (Nothing ∷ Global ∷ Own ∷ Test ∷ []) ≡ 0 ∷ 1 ∷ 2 ∷ 3 ∷ []
  -- Table 36: display test is on where its bit is 1; without it a digit has the sixteenths of its own nibble where I=1, else of the global one
  pub test_bit : (x : Device) → x.registers.controls.test ≡ 1 → test_on x ≡ true
  pub no_test_bit : (x : Device) → x.registers.controls.test ≡ 0 → test_on x ≡ false
  pub own_nibble : (x : Device) (i : ℕ) → test_on x ≡ false → odd x.registers.config.i ≡ true → ruled_to x i ≡ sixteenths (own_nibble x.registers.intensities i)
  pub global_nibble : (x : Device) (i : ℕ) → test_on x ≡ false → odd x.registers.config.i ≡ false → ruled_to x i ≡ sixteenths x.registers.controls.global
  -- what it gives, by display test, I, the global nibble and the digit's own alone
  pub by_nibbles : (x y : Device) (i : ℕ)
      → x.registers.controls.test ≡ y.registers.controls.test
      → x.registers.config.i ≡ y.registers.config.i
      → x.registers.controls.global ≡ y.registers.controls.global
      → x.registers.intensities ≡ y.registers.intensities
      → ruled_to x i ≡ ruled_to y i
  -- digits above 15 are refused: a refused answer holds 0 and names nothing
  pub refused : (x : Device) (i : ℕ) → 15 < i → brightness_answer x i ≡ record { number = 6; sixteenths = 0; ruler = 0 }
  pub answered : (x : Device) (i : ℕ) → i ≤ 15 → brightness_answer x i ≡ record { number = 0; sixteenths = brightness_of x i; ruler = ruler_code (ruler_of x) }
