-- Believed: document 01, "Numbers a call may give", and document 02, requests 6, 8 and 9: which rows of the table a call is tested by.
-- Assumes nothing.
use Rattle.std.specs.Prelude.{ℕ, ◌-◌, Bool, true, false, not, ◌&&◌, List, [], ◌∷◌, eqb, ltb, length, get_or}
use Rattle.refusals.specs.Refusals.{chain_refusal, driver_refusal, segments_refusal, levels_refusal, brightness_refusal, look_back_refusal, plane_refusal, sound_refusal, family_refusal, lack_refusal, wanted_refusal, list_refusal, in_order, size_refusal}
use Rattle.device.specs.Families.{sound_record}
use Rattle.device.specs.declared.Device.{Device}
use Rattle.plans.specs.Plan.{accesses}
use Rattle.calls.specs.Calls.{Step, scan, levels, clocks, Question, plane, plane_shown, segments, brightness, shown, interrupt, answer_mark, look_back, ports, plan, plan_check, Call, access, give, ask, ask_chain}

-- 2, by the driver that a call names; an access names none, nor does what the chain is asked
abbrev pub named_refusal : ℕ → Call → ℕ
named_refusal n (access c sent room) = 0
named_refusal n (give j s) = driver_refusal n j
named_refusal n (ask j q) = driver_refusal n j
named_refusal n (ask_chain q) = 0

-- 3, 4, 5: clocks, sent bytes and room of an access
abbrev pub bytes_refusal : Call → ℕ
bytes_refusal (access c sent room) = size_refusal c (length sent) (length room)
bytes_refusal (give j s) = 0
bytes_refusal (ask j q) = 0
bytes_refusal (ask_chain q) = 0

-- driver j's family, by those of the row
abbrev pub family_at : List ℕ → ℕ → ℕ
family_at fs j = get_or fs (j - 1) 0

-- 6: pin levels above 31, or of a MAX6957 above 28 bits
abbrev pub step_refusal : ℕ → Step → ℕ
step_refusal f (scan a b c d) = 0
step_refusal f (levels l) = levels_refusal f l
step_refusal f (clocks k) = 0

-- 6: a cathode above 7, a digit above 15, a range's last digit below its first, a lent plane not 16 long, a glyph table not 128 long,
-- a plane above 1
abbrev pub question_refusal : Question → ℕ
question_refusal (plane p0 p1 first last) = plane_refusal p0 p1 first last
question_refusal (plane_shown p0 p1 first last) = plane_refusal p0 p1 first last
question_refusal (segments d font14 font16) = segments_refusal d font14 font16
question_refusal (brightness i) = brightness_refusal i
question_refusal shown = 0
question_refusal interrupt = 0
question_refusal answer_mark = 0
question_refusal (look_back p i ws) = look_back_refusal p i
question_refusal ports = 0

-- 6, by what a driver is given or asked, and the families of the row
abbrev pub argument_refusal : List ℕ → Call → ℕ
argument_refusal fs (access c sent room) = 0
argument_refusal fs (give j s) = step_refusal (family_at fs j) s
argument_refusal fs (ask j q) = question_refusal q
argument_refusal fs (ask_chain q) = 0

-- every family of a row is below k
unfoldable pub families_below : ℕ → List ℕ → Bool
families_below k [] = true
families_below k (f ∷ fs) = ltb f k && families_below k fs

-- "The MAX6957 lacks the scan, clocks, .. calls"
abbrev pub lacks_step : ℕ → Step → Bool
lacks_step f (scan a b c d) = eqb f 1
lacks_step f (levels l) = false
lacks_step f (clocks k) = eqb f 1

-- "plane, segment and brightness calls, .. request 9's look-back"; "the old family only the MAX6957's own call"
abbrev pub lacks_question : ℕ → Question → Bool
lacks_question f (plane p0 p1 first last) = eqb f 1
lacks_question f (plane_shown p0 p1 first last) = eqb f 1
lacks_question f (segments d font14 font16) = eqb f 1
lacks_question f (brightness i) = eqb f 1
lacks_question f shown = eqb f 1
lacks_question f interrupt = false
lacks_question f answer_mark = false
lacks_question f (look_back p i ws) = eqb f 1
lacks_question f ports = eqb f 0

-- a call that the named driver lacks, or for the planner and its check any driver
abbrev pub lacks : List ℕ → Call → Bool
lacks fs (access c sent room) = false
lacks fs (give j s) = lacks_step (family_at fs j) s
lacks fs (ask j q) = lacks_question (family_at fs j) q
lacks fs (ask_chain q) = not (families_below 1 fs)

-- 12: "wanted planes not 32 bytes a driver"
abbrev pub contents_refusal : ℕ → Call → ℕ
contents_refusal n (access c sent room) = 0
contents_refusal n (give j s) = 0
contents_refusal n (ask j q) = 0
contents_refusal n (ask_chain (plan wanted room)) = wanted_refusal n (length wanted)
contents_refusal n (ask_chain (plan_check wanted list)) = wanted_refusal n (length wanted)

-- 13: "room for the list too small for the shortest", which the records decide
abbrev pub shortest_refusal : List Device → Call → ℕ
shortest_refusal ds (access c sent room) = 0
shortest_refusal ds (give j s) = 0
shortest_refusal ds (ask j q) = 0
shortest_refusal ds (ask_chain (plan wanted room)) = list_refusal (length ds) (accesses ds wanted) (length room)
shortest_refusal ds (ask_chain (plan_check wanted list)) = 0

-- every record is sound, by its own family's fields; one of an unknown family is not tested
unfoldable pub all_sound : List Device → Bool
all_sound [] = true
all_sound (d ∷ ds) = sound_record d && all_sound ds

-- the first that applies to a call on n records of families fs: 7 by whether they are sound, 13 as it is known
abbrev pub refusal_by : ℕ → List ℕ → Bool → ℕ → Call → ℕ
refusal_by n fs sound shortest q =
    in_order (chain_refusal n) (named_refusal n q) (bytes_refusal q) (argument_refusal fs q) (sound_refusal sound) 0 0 (family_refusal (families_below 2 fs)) (lack_refusal (lacks fs q)) (contents_refusal n q) shortest
