-- Auxiliary: what a call is tested by beside the records, as one number of six hexadecimal digits; `own_of` is that number of what is asked. `refusal_by` of `calls` is what is believed.
-- Assumes nothing.
use Rattle.std.specs.Prelude.{ℕ, ◌+◌, ◌*◌, ◌/◌, ◌%◌, Bool, eqb, ltb}
use Rattle.ground.specs.Choice.{if}
use Rattle.calls.specs.Calls.{Step, scan, levels, clocks, Question, plane, plane_shown, segments, brightness, shown, interrupt, answer_mark, look_back, ports}
use Rattle.calls.specs.CallRefusals.{question_refusal}
use Rattle.pass.specs.declared.Asked.{Asked}
use Rattle.pass.specs.declared.Asked.TheVariants.{Display, Levels, Any, Ports, Row}

-- 6, by the family of the driver: the lowest digit of the old family, the next of a MAX6957, the third of an unknown one
abbrev pub argument_at : ℕ → ℕ → ℕ
argument_at o f = if (eqb f 0) (o % 16) (if (eqb f 1) (o / 16 % 16) (o / 256 % 16))

-- 14, by the same: the fourth digit and the fifth
abbrev pub lack_at : ℕ → ℕ → ℕ
lack_at o f = if (eqb f 0) (o / 4096 % 16) (if (eqb f 1) (o / 65536 % 16) 0)

-- 14, where some driver of the row isn't of the old family: the sixth digit
abbrev pub row_lack_at : ℕ → Bool → ℕ
row_lack_at o old = if old 0 (o / 1048576 % 16)

-- of a call that a MAX6957 lacks, whose arguments give k, 0 or 6
abbrev pub display_own : ℕ → ℕ
display_own k = if (eqb k 0) 0xE0000 0xE0666

-- of what the whole row is asked, and the two-wire bus
abbrev pub row_own : ℕ
row_own = 0xE00000

-- of what a driver is given
abbrev pub step_own : Step → ℕ
step_own (scan a b c d) = display_own 0
step_own (levels l) = if (ltb 31 l) 6 0 + if (ltb 268435455 l) 6 0 * 16
step_own (clocks k) = display_own 0

-- and of what it is asked
abbrev pub question_own : Question → ℕ
question_own (plane p0 p1 first last) = display_own (question_refusal (plane p0 p1 first last))
question_own (plane_shown p0 p1 first last) = display_own (question_refusal (plane_shown p0 p1 first last))
question_own (segments d font14 font16) = display_own (question_refusal (segments d font14 font16))
question_own (brightness i) = display_own (question_refusal (brightness i))
question_own shown = display_own 0
question_own interrupt = 0
question_own answer_mark = 0
question_own (look_back p i ws) = display_own (question_refusal (look_back p i ws))
question_own ports = 0xE000

-- of what is asked
abbrev pub own_of : Asked → ℕ
own_of (Display fits) = display_own (if fits 0 6)
own_of (Levels l) = step_own (levels l)
own_of Any = 0
own_of Ports = 0xE000
own_of Row = row_own
