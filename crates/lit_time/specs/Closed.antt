-- Auxiliary: the lit time of clocks as those of each plane times what the cathode shows under it, and the weight of a cathode by its segments as bits.
-- Assumes nothing.
use Rattle.std.specs.Prelude.{ℕ, ◌+◌, ◌-◌, ◌*◌, ◌<◌, Bool, ◌||◌, List, eqb, get_or}
use Rattle.std.specs.Int.Bits.{bit_and}
use Rattle.std.specs.Int.Count.{ones}
use Rattle.ground.specs.Choice.{if, odd}
use Rattle.words.specs.declared.Plane.{Plane}
use Rattle.words.specs.declared.Plane.TheVariants.{P0, P1}
use Rattle.digits.specs.Digits.{plane_of}
use Rattle.device.specs.declared.Device.{Device}
use Rattle.wiring.specs.Segments.{Segment, list_of}
use Rattle.wiring.specs.Wiring.{carries, digit_of}
use Rattle.wiring.specs.declared.Display.{Display}
use Rattle.wiring.specs.declared.Display.TheVariants.{Sixteen, Fourteen, SevenPair}
use Rattle.glyphs.specs.Glyphs.{lit_by}
use Rattle.brightness.specs.Dark.{test_on, dark}
use Rattle.brightness.specs.Brightness.{brightness_of}
use Rattle.display.specs.Cathode.{display_of, hex_mode, font_of}
use Rattle.display.specs.Pins.{pin_code, pin_of}
use Rattle.display.specs.ByTable.{shown_segments}
use Rattle.display.specs.declared.Pin.TheVariants.{NotDriven, Lit}
use Rattle.lit_time.specs.LitTime.{sum_of}
use Rattle.lit_time.specs.Counted.{p0_clocks}

-- a digit's byte in a plane
abbrev pub byte_in : Device → Plane → ℕ → ℕ
byte_in x p i = get_or (plane_of x.registers.planes p) i 0

-- a segment of cathode d is on where a plane is shown
abbrev pub on_in : Device → Plane → ℕ → List ℕ → List ℕ → Segment → Bool
on_in x p d font14 font16 s = test_on x || lit_by (hex_mode x d) (font_of (display_of x d) font14 font16) (byte_in x p (digit_of d s)) s

-- a segment at a clock at which a plane is shown
abbrev pub segment_in : Device → Plane → ℕ → List ℕ → List ℕ → Segment → ℕ
segment_in x p d font14 font16 s =
    if (eqb (pin_code (if (dark x d) NotDriven (pin_of (on_in x p d font14 font16) (carries s)))) (pin_code Lit)) (brightness_of x (digit_of d s)) 0

-- cathode d at such a clock
abbrev pub time_in : Device → Plane → ℕ → List ℕ → List ℕ → ℕ
time_in x p d font14 font16 = sum_of (segment_in x p d font14 font16) (list_of (display_of x d))

-- those of k clocks at which plane P0 is shown
abbrev pub p0_of : Device → ℕ → ℕ
p0_of x k = p0_clocks (odd x.registers.config.b) (odd x.registers.config.e) x.registers.blink k

-- the bits of a display's segments that have the sixteenths of digit d
abbrev pub first_mask : Display → ℕ
first_mask Sixteen = 0x1FFFF
first_mask Fourteen = 0x1BBFF
first_mask SevenPair = 0xFF

-- and of those that have the sixteenths of digit da
abbrev pub second_mask : Display → ℕ
second_mask Sixteen = 0
second_mask Fourteen = 0
second_mask SevenPair = 0xFF00

-- lit segments, as one number, times sixteenths
abbrev pub weight_by : Display → ℕ → ℕ → ℕ → ℕ
weight_by k segments first second = ones (bit_and (first_mask k) segments) * first + ones (bit_and (second_mask k) segments) * second

-- cathode d at a clock at which a plane is shown, by its segments as bits
abbrev pub weight_in : Device → Plane → ℕ → List ℕ → List ℕ → ℕ
weight_in x p d font14 font16 =
    weight_by (display_of x d) (shown_segments (test_on x) (display_of x d) (hex_mode x d) font14 font16 (byte_in x p d) (byte_in x p (d + 8)))
    (brightness_of x d)
    (brightness_of x (d + 8))

-- clocks of which n show plane P0, by the weights
abbrev pub time_by : Device → ℕ → List ℕ → List ℕ → ℕ → ℕ → ℕ
time_by x d font14 font16 k n = n * weight_in x P0 d font14 font16 + (k - n) * weight_in x P1 d font14 font16

-- the bytes of a cathode's digits are bytes, and the tables' words words, as in every record and lent table
pub record Typed (x : Device) (d : ℕ) (font14 font16 : List ℕ) : Type 0 where
  pub byte : (p : Plane) → byte_in x p d < 256
  pub byte_a : (p : Plane) → byte_in x p (d + 8) < 256
  pub words14 : (i : ℕ) → get_or font14 i 0 < 65536
  pub words16 : (i : ℕ) → get_or font16 i 0 < 65536
  pub cathode : d < 8
