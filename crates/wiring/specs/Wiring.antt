-- Believed: document 01, "Segments and brightness": the pins of a cathode (Tables 2 to 4).
-- Assumes nothing.
use Rattle.std.specs.Prelude.{ℕ, ◌+◌, ◌-◌, eqb, ltb, get_or}
use Rattle.ground.specs.Choice.{if, odd}
use Rattle.wiring.specs.Segments.{Segment, none, list_of, Light, nothing, glyph, point, first, second, light_of}
use Rattle.wiring.specs.declared.Display.{Display}

-- the digit of cathode d whose byte lights a segment: da for the second of a pair, else d
abbrev pub digit_by : ℕ → Light → ℕ
digit_by d nothing = d
digit_by d (glyph n) = d
digit_by d point = d
digit_by d (first n) = d
digit_by d (second n) = d + 8

-- the digit that a segment of cathode d belongs to
abbrev pub digit_of : ℕ → Segment → ℕ
digit_of d s = digit_by d (light_of s)

-- what a pin is to a cathode; the serial lines are the crate `wire`'s
pub data Wire : Type 0 where
  cathode : Wire
  not_driven : Wire
  carries : Segment → Wire

-- a cathode's partner: its lowest bit flipped
abbrev pub partner : ℕ → ℕ
partner d = if (odd d) (d - 1) (d + 1)

-- the place in rising order of a pin that is neither the cathode's nor its partner's
abbrev pub place : ℕ → ℕ → ℕ
place d p = if (ltb p d) p (p - 2)

-- for cathode d, pin d is the cathode and its partner isn't driven; the others carry the display's list
abbrev pub rule_at : Display → ℕ → ℕ → Wire
rule_at k d p = if (eqb p d) cathode (if (eqb p (partner d)) not_driven (carries (get_or (list_of k) (place d p) none)))

-- the same, where a cathode above 7 and a pin above 18 drive nothing
abbrev pub wire_at : Display → ℕ → ℕ → Wire
wire_at k d p = if (ltb d 8) (if (ltb p 19) (rule_at k d p) not_driven) not_driven
