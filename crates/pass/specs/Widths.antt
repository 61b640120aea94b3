-- Auxiliary: whether every record of the old family is sound, from the bits of all their fields together. `all_sound` is what is believed.
-- Assumes nothing.
use Rattle.std.specs.Prelude.{ℕ, ◌+◌, ◌*◌, ◌/◌, ◌%◌, ◌<◌, Bool, ◌&&◌, List, [], ◌∷◌, ltb}
use Rattle.std.specs.Int.Bits.{bit_or}
use Rattle.ground.specs.Choice.{if}
use Rattle.device.specs.declared.Device.{Device}
use Rattle.pass.specs.declared.Widths.{Widths}

-- eight bytes in a row, the first lowest
abbrev pub eight_bytes : ℕ → ℕ → ℕ → ℕ → ℕ → ℕ → ℕ → ℕ → ℕ
eight_bytes a b c d e f g h =
    a + b * 256 + c * 65536 + d * 16777216 + e * 4294967296 + f * 1099511627776 + g * 281474976710656 + h * 72057594037927936

-- four bytes in a row, the first lowest
abbrev pub four_bytes : ℕ → ℕ → ℕ → ℕ → ℕ
four_bytes a b c d = a + b * 256 + c * 65536 + d * 16777216

-- two bytes in a row, the first lowest
abbrev pub two_bytes : ℕ → ℕ → ℕ
two_bytes a b = a + b * 256

-- the greater of two numbers
abbrev pub greater : ℕ → ℕ → ℕ
greater a b = if (ltb a b) b a

-- the bytes of a record that are global, limit, gpio, ports, test, types, i and e
abbrev pub first_bytes : Device → ℕ
first_bytes x =
    eight_bytes x.registers.controls.global x.registers.controls.limit x.registers.controls.gpio x.registers.controls.ports
    x.registers.controls.test x.registers.controls.types x.registers.config.i x.registers.config.e

-- and those that are b and s
abbrev pub last_bytes : Device → ℕ
last_bytes x = two_bytes x.registers.config.b x.registers.config.s

-- and those that are the fitted byte, the answer mark, the command address and the family
abbrev pub end_bytes : Device → ℕ
end_bytes x = four_bytes x.fitted x.answer_mark x.command x.family

-- of no record
abbrev pub no_widths : Widths
no_widths = record { first = 0; last = 0; pins = 0; blink = 0; interrupt = 0; ends = 0 }

-- of one record more: its fields' bits over those that are there, and the greater blink count
abbrev pub widths_with : Widths → Device → Widths
widths_with w x =
    record {
      first = bit_or w.first (first_bytes x);
      last = bit_or w.last (last_bytes x);
      pins = bit_or w.pins x.registers.pins;
      blink = greater w.blink x.registers.blink;
      interrupt = bit_or w.interrupt x.registers.keys.interrupt;
      ends = bit_or w.ends (end_bytes x);
    }

-- of records, one after the other
unfoldable pub widths_of : Widths → List Device → Widths
widths_of w [] = w
widths_of w (d ∷ ds) = widths_of (widths_with w d) ds

-- no field has a bit too high, and the greatest blink count is below 4,000,000
abbrev pub fit : Widths → Bool
fit w =
    (ltb (w.first / 1 % 256) 16 && ltb (w.first / 256 % 256) 8 && ltb (w.first / 65536 % 256) 32 && ltb (w.first / 4294967296 % 256) 2)
    && (ltb (w.first / 281474976710656 % 256) 2 && ltb (w.first / 72057594037927936 % 256) 2 && ltb (w.last / 1 % 256) 2 && ltb (w.last / 256 % 256) 2)
    && ltb w.interrupt 2
    && ltb w.pins 32
    && ltb w.blink 4000000
    && ltb (w.ends / 256 % 256) 2
    && ltb (w.ends / 65536 % 256) 128

-- every family is the old one
abbrev pub all_old : Widths → Bool
all_old w = ltb (w.ends / 16777216 % 256) 1

-- a record whose bytes are bytes
pub record Bytes (d : Device) : Type 0 where
  pub global : d.registers.controls.global < 256
  pub limit : d.registers.controls.limit < 256
  pub gpio : d.registers.controls.gpio < 256
  pub ports : d.registers.controls.ports < 256
  pub test : d.registers.controls.test < 256
  pub types : d.registers.controls.types < 256
  pub i : d.registers.config.i < 256
  pub e : d.registers.config.e < 256
  pub b : d.registers.config.b < 256
  pub s : d.registers.config.s < 256
  pub fitted : d.fitted < 256
  pub mark : d.answer_mark < 256
  pub command : d.command < 256
  pub family : d.family < 256
  pub port_global : d.ports.global < 256
  pub port_test : d.ports.test < 256
  pub port_m : d.ports.config.m < 256
  pub port_i : d.ports.config.i < 256
  pub port_s : d.ports.config.s < 256
  pub mask : d.ports.transition.mask < 256
  pub snapshot : d.ports.transition.snapshot < 256
  pub detecting : d.ports.transition.detecting < 256

-- records whose bytes are
unfoldable pub AllBytes : List Device → Type 0
AllBytes [] = Unit {0}
AllBytes (d ∷ ds) = Bytes d × AllBytes ds
