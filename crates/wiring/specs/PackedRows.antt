-- Auxiliary: a row of the wiring table as words of eight pins, a byte a pin and the lowest byte first, computed from the table entry by entry. The
-- contract of `packed_row` says that the code's constant words are these.
-- Assumes nothing.
use Rattle.std.specs.Prelude.{ℕ, zero, suc, ◌+◌, ◌-◌, ◌*◌, ◌/◌, ◌%◌, ◌^◌, ◌&&◌, eqb, ltb}
use Rattle.std.specs.Int.Bits.{bit_and, bit_or}
use Rattle.ground.specs.Choice.{if}
use Rattle.wiring.specs.Table.{entry_at}
use Rattle.wiring.specs.declared.Display.{Display}
use Rattle.wiring.specs.declared.PackedPins.{PackedPins}
use Rattle.wiring.specs.declared.PackedRow.{PackedRow}

-- byte i of a number, the lowest being byte 0
abbrev pub byte_of : ℕ → ℕ → ℕ
byte_of w i = w / 2 ^ (8 * i) % 256

-- n bytes as one number
abbrev pub packed : ℕ → (ℕ → ℕ) → ℕ
packed zero f = 0
packed (suc n) f = f 0 + 256 * packed n (λ i. f (suc i))

-- a pin by its number in an answer (display: Pins `pin_code`), where the segment that its entry names is lit
abbrev pub lit_number : ℕ → ℕ
lit_number n = if (ltb n 17) 2 (if (eqb n 17) 4 (if (eqb n 18) 1 0))

-- entry n as a bit of byte g of the segments as one number; 0 where it is in another byte, or is no segment
abbrev pub entry_bit : ℕ → ℕ → ℕ
entry_bit g n = if (ltb n 17 && eqb (n / 8) g) (2 ^ (n % 8)) 0

-- n pins, by the entry of each
abbrev pub packed_entries : ℕ → (ℕ → ℕ) → PackedPins
packed_entries n entry =
    record {
      lit = packed n (λ i. lit_number (entry i));
      low = packed n (λ i. entry_bit 0 (entry i));
      high = packed n (λ i. entry_bit 1 (entry i));
      point = packed n (λ i. entry_bit 2 (entry i));
    }

-- the entry of a pin; a cathode above 7 and a pin above 18 drive nothing
abbrev pub pin_entry : Display → ℕ → ℕ → ℕ
pin_entry k d p = if (ltb d 8 && ltb p 19) (entry_at k d p) 19

-- eight pins of a cathode from one on
abbrev pub packed_pins : Display → ℕ → ℕ → PackedPins
packed_pins k d p = packed_entries 8 (λ i. pin_entry k d (p + i))

-- the pins O0 to O18 of a cathode
abbrev pub packed_row : Display → ℕ → PackedRow
packed_row k d = record { first = packed_pins k d 0; middle = packed_pins k d 8; last = packed_pins k d 16 }

-- the first six pins of a display's list: O2 to O7 of cathode 0
abbrev pub six_pins : Display → PackedPins
six_pins k = packed_entries 6 (λ r. entry_at k 0 (2 + r))

-- a display's list: its first six pins, and those of O8 to O15 and of O16 to O18, which are cathode 0's
abbrev pub packed_list : Display → PackedRow
packed_list k = record { first = six_pins k; middle = packed_pins k 0 8; last = packed_pins k 0 16 }

-- the bytes of six pins from the pair of cathode d on
abbrev pub bytes_above : ℕ → ℕ → ℕ
bytes_above six d = six / 2 ^ (16 * (d / 2)) * 2 ^ (16 * (d / 2)) % 2 ^ 64

-- six pins, with room for a cathode and its partner
abbrev pub parted : ℕ → ℕ → ℕ
parted six d = bit_or (bytes_above six d * 2 ^ 16 % 2 ^ 64) (bit_and six (2 ^ 64 - 1 - bytes_above six d))

-- a cathode's first eight pins by the first six of the display's list
abbrev pub first_pins : PackedPins → ℕ → PackedPins
first_pins six d =
    record {
      lit = bit_or (parted six.lit d) (1 * 2 ^ (8 * d) % 2 ^ 64);
      low = parted six.low d;
      high = parted six.high d;
      point = 0;
    }
