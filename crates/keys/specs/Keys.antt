-- Believed: document 01, "Keys".
-- Assumes nothing.
use Rattle.std.specs.Prelude.{ℕ, ◌-◌, ◌/◌, Bool, not, ◌||◌, ltb, eqb}
use Rattle.std.specs.Int.Bits.{bit_and, bit_or}
use Rattle.ground.specs.Choice.{if}
use Rattle.words.specs.declared.KeyGroup.{KeyGroup}
use Rattle.words.specs.declared.KeyGroup.TheVariants.{A, B, C, D}
use Rattle.keys.specs.declared.Group.{Group}
use Rattle.keys.specs.declared.Keys.{Keys}

-- power-up: key state 0, and Table 15's masks
abbrev pub released_group : Group
released_group = record { mask = 0; debounced = 0; pressed = 0; held = 0 }

-- all four groups, and no interrupt
abbrev pub released : Keys
released = record { a = released_group; b = released_group; c = released_group; d = released_group; interrupt = 0 }

-- the registers of one group of eight keys
abbrev pub group_of : Keys → KeyGroup → Group
group_of k A = k.a
group_of k B = k.b
group_of k C = k.c
group_of k D = k.d

-- one group replaced
abbrev pub with_group : Keys → KeyGroup → Group → Keys
with_group k A g = record { a = g; b = k.b; c = k.c; d = k.d; interrupt = k.interrupt }
with_group k B g = record { a = k.a; b = g; c = k.c; d = k.d; interrupt = k.interrupt }
with_group k C g = record { a = k.a; b = k.b; c = g; d = k.d; interrupt = k.interrupt }
with_group k D g = record { a = k.a; b = k.b; c = k.c; d = g; interrupt = k.interrupt }

-- the interrupt replaced
abbrev pub with_interrupt : Keys → ℕ → Keys
with_interrupt k v = record { a = k.a; b = k.b; c = k.c; d = k.d; interrupt = v }

-- the interrupt is one bit; the other fields are bytes
abbrev pub sound_keys : Keys → Bool
sound_keys k = ltb k.interrupt 2

-- 0x08..0x0B written: key masks A to D
abbrev pub mask_written : Keys → KeyGroup → ℕ → Keys
mask_written k j v =
    with_group k j
    (record { mask = v; debounced = (group_of k j).debounced; pressed = (group_of k j).pressed; held = (group_of k j).held })

-- reading a debounced register clears it, and clears the interrupt
abbrev pub debounced_read : Keys → KeyGroup → Keys
debounced_read k j =
    with_group (with_interrupt k 0) j
    (record { mask = (group_of k j).mask; debounced = 0; pressed = (group_of k j).pressed; held = (group_of k j).held })

-- D7 to D5 of 0x06 give 0 to 4 groups of eight keys; 4 and above are four
abbrev pub groups_of : ℕ → ℕ
groups_of ports = if (ltb (ports / 32) 4) (ports / 32) 4

-- keys of groups not configured count as open
abbrev pub closed_of : ℕ → ℕ → ℕ → ℕ
closed_of ports group closed = if (ltb group (groups_of ports)) closed 0

-- the keys closed in this scan and the one before, and not yet held
abbrev pub newly : Group → ℕ → ℕ
newly g closed = bit_and (bit_and closed g.pressed) (255 - g.held)

-- pressed := this scan; new keys become debounced and held; an open key stops being held
abbrev pub scanned_group : Group → ℕ → Group
scanned_group g closed =
    record {
      mask = g.mask;
      debounced = bit_or g.debounced (newly g closed);
      pressed = closed;
      held = bit_and closed (bit_or g.held (newly g closed));
    }

-- a newly debounced key whose mask bit is set raises the interrupt
abbrev pub raises : Group → ℕ → Bool
raises g closed = not (eqb (bit_and (newly g closed) g.mask) 0)

-- a scan of groups A to D, under a port configuration
abbrev pub scanned_keys : Keys → ℕ → ℕ → ℕ → ℕ → ℕ → Keys
scanned_keys k ports a b c d =
    record {
      a = scanned_group k.a (closed_of ports 0 a);
      b = scanned_group k.b (closed_of ports 1 b);
      c = scanned_group k.c (closed_of ports 2 c);
      d = scanned_group k.d (closed_of ports 3 d);
      interrupt =
          if
          (raises k.a (closed_of ports 0 a)
          || raises k.b (closed_of ports 1 b)
          || raises k.c (closed_of ports 2 c)
          || raises k.d (closed_of ports 3 d))
          1
          k.interrupt;
    }
