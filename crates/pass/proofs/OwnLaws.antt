-- What a call is tested by, as the table has it.
-- Assumes nothing.
use Rattle.ground.proofs.Names.{ℕ, ◌+◌, ◌*◌, ◌/◌, ◌%◌, Bool, true, false, ◌&&◌, [], ◌∷◌, ◌≡◌, refl, sym, ap, eqb, leb, ltb, length, eqb-true, if}
use Rattle.refusals.specs.Refusals.{lack_refusal, first_of}
use Rattle.refusals.proofs.RefusalLaws.{first_last}
use Rattle.calls.specs.Calls.{Step, scan, levels, clocks, Question, plane, plane_shown, segments, brightness, shown, interrupt, answer_mark, look_back, ports}
use Rattle.calls.specs.CallRefusals.{step_refusal, question_refusal, lacks_step, lacks_question}
use Rattle.pass.specs.Own.{argument_at, lack_at, row_lack_at, display_own, row_own, step_own, question_own}

same_all : (a b : Bool) (k : ℕ) → if a k (if b k k) ≡ k
same_all true b k = refl
same_all false true k = refl
same_all false false k = refl

-- of a call that a MAX6957 lacks, whose arguments are refused with 6 where a test fails
display_argument : (f : ℕ) (t : Bool) → argument_at (display_own (if t 0 6)) f ≡ if t 0 6
display_argument f true = same_all (eqb f 0) (eqb f 1) 0
display_argument f false = same_all (eqb f 0) (eqb f 1) 6

display_lack : (f : ℕ) (t : Bool) → lack_at (display_own (if t 0 6)) f ≡ lack_refusal (eqb f 1)
display_lack f t = go (eqb f 0) refl t
  where
    go : (a : Bool) → eqb f 0 ≡ a → (t : Bool) → if a (display_own (if t 0 6) / 4096 % 16) (if (eqb f 1) (display_own (if t 0 6) / 65536 % 16) 0) ≡ lack_refusal (eqb f 1)
    go true e true = rw (eqb-true f 0 e)
    go true e false = rw (eqb-true f 0 e)
    go false e true = refl
    go false e false = refl

display_row : (old t : Bool) → row_lack_at (display_own (if t 0 6)) old ≡ 0
display_row true t = refl
display_row false true = refl
display_row false false = refl

-- of pin levels
levels_argument : (f : ℕ) (a b : Bool) → argument_at (if a 6 0 + if b 6 0 * 16) f ≡ if (eqb f 0) (if a 6 0) (if (eqb f 1) (if b 6 0) 0)
levels_argument f true true = refl
levels_argument f true false = refl
levels_argument f false true = refl
levels_argument f false false = refl

levels_lack : (f : ℕ) (a b : Bool) → lack_at (if a 6 0 + if b 6 0 * 16) f ≡ 0
levels_lack f true true = same_all (eqb f 0) (eqb f 1) 0
levels_lack f true false = same_all (eqb f 0) (eqb f 1) 0
levels_lack f false true = same_all (eqb f 0) (eqb f 1) 0
levels_lack f false false = same_all (eqb f 0) (eqb f 1) 0

levels_row : (old a b : Bool) → row_lack_at (if a 6 0 + if b 6 0 * 16) old ≡ 0
levels_row true a b = refl
levels_row false true true = refl
levels_row false true false = refl
levels_row false false true = refl
levels_row false false false = refl

-- of a call that the old family alone lacks
lacks_old : (f : ℕ) → if {A = ℕ} (eqb f 0) 14 (if (eqb f 1) 0 0) ≡ lack_refusal (eqb f 0)
lacks_old f = go (eqb f 0) (eqb f 1)
  where
    go : (a b : Bool) → if {A = ℕ} a 14 (if b 0 0) ≡ if a 14 0
    go true b = refl
    go false true = refl
    go false false = refl

no_row : (old : Bool) → if {A = ℕ} old 0 0 ≡ 0
no_row true = refl
no_row false = refl

-- ---- of what a driver is given
pub step_argument : (f : ℕ) (s : Step) → argument_at (step_own s) f ≡ step_refusal f s
step_argument f (scan a b c d) = same_all (eqb f 0) (eqb f 1) 0
step_argument f (levels l) = levels_argument f (ltb 31 l) (ltb 268435455 l)
step_argument f (clocks k) = same_all (eqb f 0) (eqb f 1) 0

pub step_lack : (f : ℕ) (s : Step) → lack_at (step_own s) f ≡ lack_refusal (lacks_step f s)
step_lack f (scan a b c d) = display_lack f true
step_lack f (levels l) = levels_lack f (ltb 31 l) (ltb 268435455 l)
step_lack f (clocks k) = display_lack f true

pub step_row : (old : Bool) (s : Step) → row_lack_at (step_own s) old ≡ 0
step_row old (scan a b c d) = display_row old true
step_row old (levels l) = levels_row old (ltb 31 l) (ltb 268435455 l)
step_row old (clocks k) = display_row old true

-- ---- and of what it is asked
-- the test that a question's arguments pass
abbrev tested : Question → Bool
tested (plane p0 p1 first last) = eqb (length p0) 16 && eqb (length p1) 16 && ltb last 16 && leb first last
tested (plane_shown p0 p1 first last) = eqb (length p0) 16 && eqb (length p1) 16 && ltb last 16 && leb first last
tested (segments d font14 font16) = ltb d 8 && eqb (length font14) 128 && eqb (length font16) 128
tested (brightness i) = ltb i 16
tested shown = true
tested interrupt = true
tested answer_mark = true
tested (look_back p i ws) = ltb p 2 && ltb i 16
tested ports = true

pub question_argument : (f : ℕ) (q : Question) → argument_at (question_own q) f ≡ question_refusal q
question_argument f (plane p0 p1 first last) = display_argument f (tested (plane p0 p1 first last))
question_argument f (plane_shown p0 p1 first last) = display_argument f (tested (plane_shown p0 p1 first last))
question_argument f (segments d font14 font16) = display_argument f (tested (segments d font14 font16))
question_argument f (brightness i) = display_argument f (tested (brightness i))
question_argument f shown = same_all (eqb f 0) (eqb f 1) 0
question_argument f interrupt = same_all (eqb f 0) (eqb f 1) 0
question_argument f answer_mark = same_all (eqb f 0) (eqb f 1) 0
question_argument f (look_back p i ws) = display_argument f (tested (look_back p i ws))
question_argument f ports = same_all (eqb f 0) (eqb f 1) 0

pub question_lack : (f : ℕ) (q : Question) → lack_at (question_own q) f ≡ lack_refusal (lacks_question f q)
question_lack f (plane p0 p1 first last) = display_lack f (tested (plane p0 p1 first last))
question_lack f (plane_shown p0 p1 first last) = display_lack f (tested (plane_shown p0 p1 first last))
question_lack f (segments d font14 font16) = display_lack f (tested (segments d font14 font16))
question_lack f (brightness i) = display_lack f (tested (brightness i))
question_lack f shown = display_lack f true
question_lack f interrupt = same_all (eqb f 0) (eqb f 1) 0
question_lack f answer_mark = same_all (eqb f 0) (eqb f 1) 0
question_lack f (look_back p i ws) = display_lack f (tested (look_back p i ws))
question_lack f ports = lacks_old f

pub question_row : (old : Bool) (q : Question) → row_lack_at (question_own q) old ≡ 0
question_row old (plane p0 p1 first last) = display_row old (tested (plane p0 p1 first last))
question_row old (plane_shown p0 p1 first last) = display_row old (tested (plane_shown p0 p1 first last))
question_row old (segments d font14 font16) = display_row old (tested (segments d font14 font16))
question_row old (brightness i) = display_row old (tested (brightness i))
question_row old shown = display_row old true
question_row old interrupt = no_row old
question_row old answer_mark = no_row old
question_row old (look_back p i ws) = display_row old (tested (look_back p i ws))
question_row old ports = no_row old

-- ---- of what the whole row is asked; what a driver lacks is the same
pub row_argument : (f : ℕ) → argument_at row_own f ≡ 0
row_argument f = same_all (eqb f 0) (eqb f 1) 0

-- ---- the first of some numbers, where there was none before
pub found_two : (first a b : ℕ) → first ≡ 0 → if (eqb a 0) b a ≡ if (eqb first 0) (first_of (a ∷ b ∷ [])) first
found_two first a b z = rw z (ap (λ (x : ℕ). if (eqb a 0) x a) (sym (first_last b)))

pub found_three : (first a b c : ℕ) → first ≡ 0 → if (eqb a 0) (if (eqb b 0) c b) a ≡ if (eqb first 0) (first_of (a ∷ b ∷ c ∷ [])) first
found_three first a b c z = rw z (ap (λ (x : ℕ). if (eqb a 0) (if (eqb b 0) x b) a) (sym (first_last c)))

pub first_five : (a b c d e : ℕ) → if (eqb a 0) (if (eqb b 0) (if (eqb c 0) (if (eqb d 0) e d) c) b) a ≡ first_of (a ∷ b ∷ c ∷ d ∷ e ∷ [])
first_five a b c d e = ap (λ (x : ℕ). if (eqb a 0) (if (eqb b 0) (if (eqb c 0) (if (eqb d 0) x d) c) b) a) (sym (first_last e))
