-- Believed: document 02, request 9: one byte of a driver's planes after a list of its words.
-- Assumes nothing.
use Rattle.std.specs.Prelude.{ℕ, List, eqb, get_or}
use Rattle.ground.specs.Choice.{if}
use Rattle.refusals.specs.Refusals.{look_back_refusal}
use Rattle.words.specs.declared.Plane.{Plane}
use Rattle.words.specs.declared.Plane.TheVariants.{P0, P1}
use Rattle.digits.specs.Digits.{plane_of}
use Rattle.device.specs.Table15.{after_words}
use Rattle.device.specs.declared.Device.{Device}
use Rattle.look_back.specs.declared.LookBackAnswer.{LookBackAnswer}

-- the plane of a number: 0 is P0, 1 is P1
abbrev pub plane_numbered : ℕ → Plane
plane_numbered n = if (eqb n 0) P0 P1

-- "one plane byte": digit i's in plane p of a record
abbrev pub byte_of : Device → Plane → ℕ → ℕ
byte_of d p i = get_or (plane_of d.registers.planes p) i 0

-- "what running all the words would leave": that byte of the record after the driver has taken the words in order
abbrev pub byte_after : Device → Plane → ℕ → List ℕ → ℕ
byte_after d p i ws = byte_of (after_words d ws) p i

-- the answer: its number and the byte, 0 where refused
abbrev pub look_back_answer : Device → ℕ → ℕ → List ℕ → LookBackAnswer
look_back_answer d plane digit ws =
    record {
      number = look_back_refusal plane digit;
      byte = if (eqb (look_back_refusal plane digit) 0) (byte_after d (plane_numbered plane) digit ws) 0;
    }
