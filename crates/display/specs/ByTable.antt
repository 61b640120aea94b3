-- Auxiliary: the pins of a cathode by the wiring table and its lit segments as one number, equal to those pin by pin.
-- Assumes nothing.
use Rattle.std.specs.Prelude.{ℕ, ◌+◌, ◌<◌, Bool, List, ◌≡◌, eqb, ltb, get_or}
use Rattle.ground.specs.Choice.{if, bit}
use Rattle.device.specs.declared.Device.{Device}
use Rattle.wiring.specs.Table.{entry_at}
use Rattle.wiring.specs.declared.Display.{Display}
use Rattle.glyphs.specs.Masks.{segments_by}
use Rattle.brightness.specs.Dark.{test_on, dark}
use Rattle.display.specs.Cathode.{display_of, shown_byte, hex_mode, font_of}
use Rattle.display.specs.Pins.{pin_at}
use Rattle.display.specs.declared.Pin.{Pin}
use Rattle.display.specs.declared.Pin.TheVariants.{NotDriven, Cathode, Lit, Unlit, NoSegment}

-- seventeen bits: every segment that a display may have
abbrev pub all_segments : ℕ
all_segments = 0x1FFFF

-- the lit segments of a cathode as one number, by the bytes that its digits show; in display test all. Bits that no segment of the display has
-- may be set too
abbrev pub shown_segments : Bool → Display → Bool → List ℕ → List ℕ → ℕ → ℕ → ℕ
shown_segments test k hex font14 font16 v a = if test all_segments (segments_by k hex (font_of k font14 font16) v a)

-- those of a driver's cathode
abbrev pub lit_segments : Device → ℕ → List ℕ → List ℕ → ℕ
lit_segments x d font14 font16 =
    shown_segments (test_on x) (display_of x d) (hex_mode x d) font14 font16 (shown_byte x d) (shown_byte x (d + 8))

-- a pin by its entry of the wiring table
abbrev pub pin_by : ℕ → ℕ → Pin
pin_by segments entry =
    if (ltb entry 17)
    (if (bit entry segments) Lit Unlit)
    (if (eqb entry 17) NoSegment (if (eqb entry 18) Cathode NotDriven))

-- a pin of cathode d, by the table
abbrev pub table_pin : Device → ℕ → List ℕ → List ℕ → ℕ → Pin
table_pin x d font14 font16 p =
    if (dark x d) NotDriven (pin_by (lit_segments x d font14 font16) (entry_at (display_of x d) d p))

-- the two are equal where the bytes shown are below 256 and the words below 65,536, as in every record and lent table
abbrev pub PinByPin : Type 0
PinByPin =
    (x : Device) (d : ℕ) (font14 font16 : List ℕ) (p : ℕ)
    → shown_byte x d < 256
    → shown_byte x (d + 8) < 256
    → ((i : ℕ) → get_or font14 i 0 < 65536)
    → ((i : ℕ) → get_or font16 i 0 < 65536)
    → d < 8
    → p < 19
    → table_pin x d font14 font16 p ≡ pin_at x d font14 font16 p
