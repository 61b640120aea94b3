-- Auxiliary: whether every record is sound by its own family, and which families there are. `all_sound` and `families_below` are what is believed.
-- Assumes nothing.
use Rattle.std.specs.Prelude.{ℕ, ◌/◌, ◌%◌, Bool, true, ◌&&◌, List, [], ◌∷◌, eqb, ltb}
use Rattle.std.specs.Int.Bits.{bit_or}
use Rattle.ground.specs.Choice.{if}
use Rattle.device.specs.Families.{sound_record}
use Rattle.device.specs.declared.Device.{Device}
use Rattle.pass.specs.Widths.{eight_bytes}
use Rattle.pass.specs.declared.Seen.{Seen}

-- of no record
abbrev pub no_seen : Seen
no_seen = record { sound = true; stored = 0; pins = 0; first = 0; interrupt = 0; mark = 0; families = 0 }

-- the bytes of a record that are global, test, m, i, s, mask, snapshot and detecting
abbrev pub port_bytes : Device → ℕ
port_bytes x =
    eight_bytes x.ports.global x.ports.test x.ports.config.m x.ports.config.i x.ports.config.s
    x.ports.transition.mask x.ports.transition.snapshot x.ports.transition.detecting

-- of a MAX6957 more: its fields' bits over those that are there
abbrev pub ports_with : Seen → Device → Seen
ports_with s x =
    record {
      sound = s.sound;
      stored = bit_or s.stored x.ports.stored;
      pins = bit_or s.pins x.ports.pins;
      first = bit_or s.first (port_bytes x);
      interrupt = bit_or s.interrupt x.ports.transition.interrupt;
      mark = bit_or s.mark x.answer_mark;
      families = bit_or s.families 1;
    }

-- of another record more
abbrev pub other_with : Seen → Device → Seen
other_with s x =
    record {
      sound = s.sound && sound_record x;
      stored = s.stored;
      pins = s.pins;
      first = s.first;
      interrupt = s.interrupt;
      mark = s.mark;
      families = bit_or s.families x.family;
    }

-- one more record, tested by its own family
abbrev pub seen_with : Seen → Device → Seen
seen_with s x = if (eqb x.family 1) (ports_with s x) (other_with s x)

-- of records, one after the other
unfoldable pub seen_of : Seen → List Device → Seen
seen_of s [] = s
seen_of s (d ∷ ds) = seen_of (seen_with s d) ds

-- no field of a MAX6957 has a bit too high
abbrev pub ports_fit : Seen → Bool
ports_fit s =
    ltb s.stored 268435456
    && ltb s.pins 268435456
    && ltb (s.first / 1 % 256) 16
    && ltb (s.first / 256 % 256) 2
    && (ltb (s.first / 65536 % 256) 2 && ltb (s.first / 16777216 % 256) 2 && ltb (s.first / 4294967296 % 256) 2)
    && (ltb (s.first / 1099511627776 % 256) 128 && ltb (s.first / 281474976710656 % 256) 128 && ltb (s.first / 72057594037927936 % 256) 2 && ltb s.interrupt 2)
    && ltb s.mark 2

-- every record was sound
abbrev pub seen_fit : Seen → Bool
seen_fit s = s.sound && ports_fit s
