-- Auxiliary: how a scan is computed, the four groups at once in numbers of 32 bits. No definition that is to be believed cites it.
-- Assumes nothing.
use Rattle.std.specs.Prelude.{ℕ, ◌+◌, ◌-◌, ◌*◌, ◌/◌, ◌%◌, ◌^◌, Bool, not, eqb}
use Rattle.std.specs.Int.Bits.{bit_and, bit_or}
use Rattle.keys.specs.Keys.{closed_of}
use Rattle.keys.specs.declared.Group.{Group}
use Rattle.keys.specs.declared.Keys.{Keys}
use Rattle.keys.specs.declared.Packed.{Packed}

-- four bytes as one number, the first lowest
abbrev pub joined : ℕ → ℕ → ℕ → ℕ → ℕ
joined a b c d = a + b * 256 + c * 65536 + d * 16777216

-- byte j of a number, the lowest being byte 0
unfoldable pub byte_at : ℕ → ℕ → ℕ
byte_at j x = x / 2 ^ (8 * j) % 256

-- the keys of the groups that are configured
abbrev pub configured : ℕ → ℕ
configured ports = joined (closed_of ports 0 255) (closed_of ports 1 255) (closed_of ports 2 255) (closed_of ports 3 255)

-- the registers of the four groups, one number each
abbrev pub packed : Keys → Packed
packed k =
    record {
      mask = joined k.a.mask k.b.mask k.c.mask k.d.mask;
      debounced = joined k.a.debounced k.b.debounced k.c.debounced k.d.debounced;
      pressed = joined k.a.pressed k.b.pressed k.c.pressed k.d.pressed;
      held = joined k.a.held k.b.held k.c.held k.d.held;
    }

-- group j of packed registers
abbrev pub group_at : Packed → ℕ → Group
group_at p j =
    record {
      mask = byte_at j p.mask;
      debounced = byte_at j p.debounced;
      pressed = byte_at j p.pressed;
      held = byte_at j p.held;
    }

-- the four groups of packed registers, with an interrupt
abbrev pub unpacked : Packed → ℕ → Keys
unpacked p interrupt =
    record { a = group_at p 0; b = group_at p 1; c = group_at p 2; d = group_at p 3; interrupt = interrupt }

-- `newly` of all groups
abbrev pub newly_packed : Packed → ℕ → ℕ
newly_packed p closed = bit_and (bit_and closed p.pressed) (4294967295 - p.held)

-- `scanned_group` of all groups
abbrev pub scanned_packed : Packed → ℕ → Packed
scanned_packed p closed =
    record {
      mask = p.mask;
      debounced = bit_or p.debounced (newly_packed p closed);
      pressed = closed;
      held = bit_and closed (bit_or p.held (newly_packed p closed));
    }

-- `raises` of all groups
abbrev pub raises_packed : Packed → ℕ → Bool
raises_packed p closed = not (eqb (bit_and (newly_packed p closed) p.mask) 0)
