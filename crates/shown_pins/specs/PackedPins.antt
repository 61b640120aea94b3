-- Auxiliary: eight pins at a time, by a packed row (`wiring`: PackedRows) and the segments as one number, computed as the code does.
-- Assumes nothing.
use Rattle.std.specs.Prelude.{ℕ, ◌+◌, ◌*◌, ◌/◌, ◌%◌, ◌^◌, List, ltb}
use Rattle.std.specs.Int.Bits.{bit_and, bit_or}
use Rattle.ground.specs.Choice.{if}
use Rattle.ground.specs.Lists.{tabulate}
use Rattle.wiring.specs.PackedRows.{byte_of}
use Rattle.wiring.specs.declared.PackedPins.{PackedPins}
use Rattle.wiring.specs.declared.PackedRow.{PackedRow}

-- 1 in each byte
abbrev pub ones : ℕ
ones = 0x0101010101010101

-- 127 in each byte
abbrev pub seven_bits : ℕ
seven_bits = 0x7F7F7F7F7F7F7F7F

-- those of some segments that eight pins carry: a pin's byte has the bit of its segment
abbrev pub carried_by : ℕ → PackedPins → ℕ
carried_by segments e =
    bit_or
    (bit_or (bit_and (byte_of segments 0 * ones) e.low) (bit_and (byte_of segments 1 * ones) e.high))
    (bit_and (byte_of segments 2 * ones) e.point)

-- 1 in each byte that isn't 0
abbrev pub nonzero_bytes : ℕ → ℕ
nonzero_bytes w = bit_and (bit_or (bit_and w seven_bits + seven_bits) w / 2 ^ 7) ones

-- eight pins by their numbers, by the segments that aren't lit
unfoldable pub eight_pins : ℕ → PackedPins → ℕ
eight_pins unlit e = bit_or e.lit (nonzero_bytes (carried_by unlit e))

-- the one of three words that has pin p
abbrev pub word_at : ℕ → ℕ → ℕ → ℕ → ℕ
word_at first middle last p = if (ltb p 8) first (if (ltb p 16) middle last)

-- the pins O0 to O18 of three words
abbrev pub pins_of : ℕ → ℕ → ℕ → List ℕ
pins_of first middle last = tabulate 19 (λ p. byte_of (word_at first middle last p) (p % 8))

-- the pins of a cathode by its packed row
abbrev pub pins_by : ℕ → PackedRow → List ℕ
pins_by unlit row = pins_of (eight_pins unlit row.first) (eight_pins unlit row.middle) (eight_pins unlit row.last)
