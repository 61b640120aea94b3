-- Auxiliary: what a word with an address of 0x20 or above changes where it lies, a digit's byte in each plane, the shift word and the answer mark. `taken` is what is believed.
-- Assumes nothing.
use Rattle.std.specs.Prelude.{ℕ, ◌+◌, ◌*◌, ◌/◌, ◌%◌, Bool, ◌&&◌, ◌||◌, eqb, ltb, get_or, set}
use Rattle.ground.specs.Choice.{if}
use Rattle.digits.specs.declared.Planes.{Planes}
use Rattle.registers.specs.Record.{with_planes}
use Rattle.device.specs.declared.Device.{Device}

-- a word's address is 0x20 or above
abbrev pub is_high : ℕ → Bool
is_high w = ltb 1 (w / 4096 % 8)

-- such a word is for a driver of the old family: it is obeyed where it lies
abbrev pub in_place : ℕ → ℕ → Bool
in_place w family = is_high w && eqb family 0

-- the digit that it names
abbrev pub digit_of : ℕ → ℕ
digit_of w = w / 256 % 16

-- the digit's byte in a plane after it: writes to the plane's own row of addresses and to 0x60+d reach it
abbrev pub new_byte : ℕ → ℕ → ℕ → ℕ
new_byte row w old = if (eqb (w / 4096) row || eqb (w / 4096) 6) (w % 256) old

-- plane P0's row is 0x20+d, plane P1's 0x40+d
abbrev pub new_p0 : ℕ → ℕ → ℕ
new_p0 = new_byte 2

-- and in plane P1
abbrev pub new_p1 : ℕ → ℕ → ℕ
new_p1 = new_byte 4

-- what it reads: 0x20+d plane P0's byte, 0x40+d plane P1's, others 0
abbrev pub digit_read : ℕ → ℕ → ℕ → ℕ
digit_read w p0 p1 = if (eqb (w / 4096) 12) p1 (if (eqb (w / 4096) 10) p0 0)

-- the shift word after it
abbrev pub new_shift : ℕ → ℕ → ℕ → ℕ
new_shift w p0 p1 = if (ltb (w / 4096) 8) w (w / 256 * 256 + digit_read w p0 p1)

-- the answer mark after it
abbrev pub new_mark : ℕ → ℕ
new_mark w = if (ltb (w / 4096) 8) 0 1

-- the planes after it
abbrev pub new_planes : Planes → ℕ → Planes
new_planes x w =
    record {
      p0 = set x.p0 (digit_of w) (new_p0 w (get_or x.p0 (digit_of w) 0));
      p1 = set x.p1 (digit_of w) (new_p1 w (get_or x.p1 (digit_of w) 0));
    }

-- the record after it
abbrev pub high_taken : Device → ℕ → Device
high_taken d w =
    record {
      registers = with_planes d.registers (new_planes d.registers.planes w);
      shift = new_shift w (get_or d.registers.planes.p0 (digit_of w) 0) (get_or d.registers.planes.p1 (digit_of w) 0);
      fitted = d.fitted;
      answer_mark = new_mark w;
      command = d.command;
      family = d.family;
      ports = d.ports;
    }
