-- Believed: document 01, "Segments and brightness" and number 6: the pins O0 to O18 of a cathode, pin by pin.
-- Assumes nothing.
use Rattle.std.specs.Prelude.{ℕ, Bool, List, eqb}
use Rattle.ground.specs.Choice.{if}
use Rattle.ground.specs.Lists.{tabulate}
use Rattle.refusals.specs.Refusals.{segments_refusal}
use Rattle.device.specs.declared.Device.{Device}
use Rattle.wiring.specs.Segments.{Segment, is_segment}
use Rattle.wiring.specs.Wiring.{Wire, cathode, not_driven, carries, wire_at}
use Rattle.brightness.specs.Dark.{dark}
use Rattle.display.specs.Cathode.{display_of, segment_on}
use Rattle.display.specs.declared.Pin.{Pin}
use Rattle.display.specs.declared.Pin.TheVariants.{NotDriven, Cathode, Lit, Unlit, NoSegment}
use Rattle.display.specs.declared.SegmentAnswer.{SegmentAnswer}

-- the number of each pin in an answer
abbrev pub pin_code : Pin → ℕ
pin_code NotDriven = 0
pin_code Cathode = 1
pin_code Lit = 2
pin_code Unlit = 3
pin_code NoSegment = 4

-- a pin by what it is to a cathode that isn't dark; "none" is no segment
abbrev pub pin_of : (Segment → Bool) → Wire → Pin
pin_of on cathode = Cathode
pin_of on not_driven = NotDriven
pin_of on (carries s) = if (is_segment s) (if (on s) Lit Unlit) NoSegment

-- a pin by what it is to cathode d; none is driven where the cathode is dark
abbrev pub wire_pin : Device → ℕ → List ℕ → List ℕ → Wire → Pin
wire_pin x d font14 font16 w = if (dark x d) NotDriven (pin_of (segment_on x d font14 font16) w)

-- pin p of cathode d
abbrev pub pin_at : Device → ℕ → List ℕ → List ℕ → ℕ → Pin
pin_at x d font14 font16 p = wire_pin x d font14 font16 (wire_at (display_of x d) d p)

-- a segment of the list of cathode d's display is lit where a pin that carries it is
abbrev pub lit : Device → ℕ → List ℕ → List ℕ → Segment → Bool
lit x d font14 font16 s = eqb (pin_code (wire_pin x d font14 font16 (carries s))) (pin_code Lit)

-- the answer: its number, and the pins O0 to O18; where refused no pin is driven
abbrev pub segments_of : Device → ℕ → List ℕ → List ℕ → SegmentAnswer
segments_of x d font14 font16 =
    record {
      number = segments_refusal d font14 font16;
      pins = tabulate 19 (λ p. pin_code (if (eqb (segments_refusal d font14 font16) 0) (pin_at x d font14 font16 p) NotDriven));
    }
