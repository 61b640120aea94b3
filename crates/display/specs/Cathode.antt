-- Believed: document 01, "Segments and brightness": the display of a cathode, and the segments of it that are on.
-- Assumes nothing.
use Rattle.std.specs.Prelude.{ℕ, Bool, ◌||◌, List, get_or}
use Rattle.ground.specs.Choice.{if, bit}
use Rattle.digits.specs.Digits.{plane_of}
use Rattle.device.specs.Steps.{shown_plane}
use Rattle.device.specs.declared.Device.{Device}
use Rattle.wiring.specs.Segments.{Segment}
use Rattle.wiring.specs.Wiring.{digit_of}
use Rattle.wiring.specs.declared.Display.{Display}
use Rattle.wiring.specs.declared.Display.TheVariants.{Sixteen, Fourteen, SevenPair}
use Rattle.glyphs.specs.Glyphs.{lit_by}
use Rattle.brightness.specs.Dark.{test_on}

-- bit d of the digit type set is a 14-segment digit (Tables 12 and 13); clear it is 16- or 7-segment, and bit d of the fitted byte set means a
-- 7-segment pair
abbrev pub display_by : ℕ → ℕ → ℕ → Display
display_by types fitted d = if (bit d types) Fourteen (if (bit d fitted) SevenPair Sixteen)

-- the display of a driver's cathode
abbrev pub display_of : Device → ℕ → Display
display_of x d = display_by x.registers.controls.types x.fitted d

-- the byte that a digit shows: its own in the plane shown
abbrev pub shown_byte : Device → ℕ → ℕ
shown_byte x i = get_or (plane_of x.registers.planes (shown_plane x)) i 0

-- a set decode bit d: the hex font (Table 14)
abbrev pub hex_mode : Device → ℕ → Bool
hex_mode x d = bit d x.registers.controls.decode

-- one lent table for each display; a 7-segment pair uses neither
abbrev pub font_of : Display → List ℕ → List ℕ → List ℕ
font_of Sixteen font14 font16 = font16
font_of Fourteen font14 font16 = font14
font_of SevenPair font14 font16 = font16

-- a segment of cathode d is on, where the cathode isn't dark: every one in display test, else by the byte of its own digit
abbrev pub segment_on : Device → ℕ → List ℕ → List ℕ → Segment → Bool
segment_on x d font14 font16 s =
    test_on x || lit_by (hex_mode x d) (font_of (display_of x d) font14 font16) (shown_byte x (digit_of d s)) s
