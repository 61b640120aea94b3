-- Believed: document 01, "Segments and brightness" and number 6, and document 02, request 5: the brightness of a digit, in sixteenths, and what rules it.
-- Assumes nothing.
use Rattle.std.specs.Prelude.{ℕ, ◌+◌, ◌/◌, ◌%◌, List, eqb, ltb, get_or}
use Rattle.ground.specs.Choice.{if, odd}
use Rattle.refusals.specs.Refusals.{brightness_refusal}
use Rattle.device.specs.declared.Device.{Device}
use Rattle.brightness.specs.Dark.{test_on, dark}
use Rattle.brightness.specs.declared.BrightnessAnswer.{BrightnessAnswer}
use Rattle.brightness.specs.declared.Ruler.{Ruler}
use Rattle.brightness.specs.declared.Ruler.TheVariants.{Nothing, Global, Own, Test}

-- a digit's own nibble: 0x10+j holds digits 2j and 2j+1, 0x14+j digits 2j "a" and 2j+1 "a", the odd one in the high nibble; "a" digits are 8 to
-- 15, so digit i is in register 0x10 + i / 2
abbrev pub own_nibble : List ℕ → ℕ → ℕ
own_nibble intensities i = if (odd i) (get_or intensities (i / 2) 0 / 16) (get_or intensities (i / 2) 0 % 16)

-- v: the global nibble (I=0) or the digit's own
abbrev pub nibble_of : Device → ℕ → ℕ
nibble_of x i = if (odd x.registers.config.i) (own_nibble x.registers.intensities i) x.registers.controls.global

-- the smaller of v + 1 and 15
abbrev pub sixteenths : ℕ → ℕ
sixteenths v = if (ltb (v + 1) 15) (v + 1) 15

-- the sixteenths that its ruler gives a digit; in display test 7
abbrev pub ruled_to : Device → ℕ → ℕ
ruled_to x i = if (test_on x) 7 (sixteenths (nibble_of x i))

-- the cathode of a digit: digits 0 to 7, then 0a to 7a
abbrev pub cathode_of : ℕ → ℕ
cathode_of i = i % 8

-- request 5: the brightness of a digit; 0 where its cathode is dark
abbrev pub brightness_of : Device → ℕ → ℕ
brightness_of x i = if (dark x (cathode_of i)) 0 (ruled_to x i)

-- request 5: what rules it, or would if its cathode weren't dark: display test, or by I its own nibble or the global register
abbrev pub ruler_of : Device → Ruler
ruler_of x = if (test_on x) Test (if (odd x.registers.config.i) Own Global)

-- request 5: the numbers of what rules
abbrev pub ruler_code : Ruler → ℕ
ruler_code Nothing = 0
ruler_code Global = 1
ruler_code Own = 2
ruler_code Test = 3

-- the answer: its number, the sixteenths and what rules; 0 and nothing where refused
abbrev pub brightness_answer : Device → ℕ → BrightnessAnswer
brightness_answer x i =
    record {
      number = brightness_refusal i;
      sixteenths = if (eqb (brightness_refusal i) 0) (brightness_of x i) 0;
      ruler = ruler_code (if (eqb (brightness_refusal i) 0) (ruler_of x) Nothing);
    }
