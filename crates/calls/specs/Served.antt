-- Believed: document 01, "Bits on the wire", "Keys", "Blink", "Segments and brightness", document 02, requests 6, 8 and 9: what a call leaves and gives back, served or refused.
-- Assumes nothing.
use Rattle.std.specs.Prelude.{ℕ, ◌-◌, ◌*◌, List, [], ◌∷◌, ◌++◌, map, length, get_or, set, drop, replicate}
use Rattle.ground.specs.Choice.{if}
use Rattle.ground.specs.Lists.{tabulate}
use Rattle.refusals.specs.Refusals.{bytes_for}
use Rattle.words.specs.declared.Plane.{Plane}
use Rattle.words.specs.declared.Plane.TheVariants.{P0, P1}
use Rattle.wire.specs.Wire.{answer, shifted}
use Rattle.blink.specs.Part.{plane_part}
use Rattle.device.specs.PowerUp.{power_up}
use Rattle.device.specs.Steps.{scanned, clocked, shown_plane}
use Rattle.device.specs.Families.{takes, pinned, interrupt_of}
use Rattle.device.specs.declared.Device.{Device}
use Rattle.port_states.specs.PortStates.{states_of}
use Rattle.brightness.specs.Brightness.{brightness_of, ruler_of, ruler_code}
use Rattle.brightness.specs.declared.Ruler.TheVariants.{Nothing}
use Rattle.look_back.specs.LookBack.{plane_numbered, byte_after}
use Rattle.plans.specs.Check.{accepted_list}
use Rattle.plans.specs.Plan.{accesses, planned}
use Rattle.display.specs.Pins.{pin_code, segments_of}
use Rattle.display.specs.declared.Pin.TheVariants.{NotDriven}
use Rattle.calls.specs.Calls.{Step, scan, levels, clocks, Question, plane, plane_shown, segments, brightness, shown, interrupt, answer_mark, look_back, ports, ChainQuestion, plan, plan_check, Call, access, give, ask, ask_chain}

-- driver j's record
abbrev pub record_of : List Device → ℕ → Device
record_of ds j = get_or ds (j - 1) power_up

-- driver j's record replaced
abbrev pub with_record : List Device → ℕ → Device → List Device
with_record ds j d = set ds (j - 1) d

-- the shift words, driver 1's first
abbrev pub shift_words : List Device → List ℕ
shift_words ds = map (λ (d : Device). d.shift) ds

-- every driver takes its word
abbrev pub all_taken : List Device → List ℕ → List Device
all_taken ds ws = tabulate (length ds) (λ i. takes (get_or ds i power_up) (get_or ws i 0))

-- a driver that is given a scan, pin levels or master clocks
abbrev pub stepped : Step → Device → Device
stepped (scan a b c d) x = scanned x a b c d
stepped (levels l) x = pinned x l
stepped (clocks k) x = clocked x k

-- the number of a plane in an answer
abbrev pub plane_code : Plane → ℕ
plane_code P0 = 0
plane_code P1 = 1

-- what a driver answers, from its record and what is lent: the part, the 19 pins, the sixteenths and what rules them, the plane shown, the interrupt, the answer mark,
-- the byte that the words would leave, what each port drives
abbrev pub answer_to : Question → Device → List ℕ
answer_to (plane p0 p1 first last) x = plane_part (shown_plane x) p0 p1 first last
answer_to (plane_shown p0 p1 first last) x = plane_code (shown_plane x) ∷ []
answer_to (segments d font14 font16) x = (segments_of x d font14 font16).pins
answer_to (brightness i) x = brightness_of x i ∷ ruler_code (ruler_of x) ∷ []
answer_to shown x = plane_code (shown_plane x) ∷ []
answer_to interrupt x = interrupt_of x ∷ []
answer_to answer_mark x = x.answer_mark ∷ []
answer_to (look_back p i ws) x = byte_after x (plane_numbered p) i ws ∷ []
answer_to ports x = states_of x.ports

-- a refused answer: the part is empty, no pin is driven, nothing rules, no port is driven, a number is 0
abbrev pub refused_to : Question → List ℕ
refused_to (plane p0 p1 first last) = []
refused_to (plane_shown p0 p1 first last) = 0 ∷ []
refused_to (segments d font14 font16) = tabulate 19 (λ p. pin_code NotDriven)
refused_to (brightness i) = 0 ∷ ruler_code Nothing ∷ []
refused_to shown = 0 ∷ []
refused_to interrupt = 0 ∷ []
refused_to answer_mark = 0 ∷ []
refused_to (look_back p i ws) = 0 ∷ []
refused_to ports = replicate 28 0

-- what a chain answers: the accesses of the shortest list, and the words that were lent, with the list in front; 1 where a list is accepted
abbrev pub chain_answer : ChainQuestion → List Device → List ℕ
chain_answer (plan wanted room) ds = accesses ds wanted ∷ planned ds wanted ++ drop (accesses ds wanted * length ds) room
chain_answer (plan_check wanted list) ds = if (accepted_list ds wanted list) 1 0 ∷ []

-- a refused answer: no access, and the words as they were; not accepted
abbrev pub chain_refused : ChainQuestion → List ℕ
chain_refused (plan wanted room) = 0 ∷ room
chain_refused (plan_check wanted list) = 0 ∷ []

-- the records that a served call leaves; a question changes none
abbrev pub served : Call → List Device → List Device
served (access c sent room) ds = all_taken ds (shifted (shift_words ds) sent c)
served (give j s) ds = with_record ds j (stepped s (record_of ds j))
served (ask j q) ds = ds
served (ask_chain q) ds = ds

-- what a served call gives back: an access the bytes that it was lent, with the answer in front
abbrev pub given_back : Call → List Device → List ℕ
given_back (access c sent room) ds = answer (shift_words ds) sent c ++ drop (bytes_for c) room
given_back (give j s) ds = []
given_back (ask j q) ds = answer_to q (record_of ds j)
given_back (ask_chain q) ds = chain_answer q ds

-- what a refused call gives back: an access the bytes as they were
abbrev pub refused_back : Call → List ℕ
refused_back (access c sent room) = room
refused_back (give j s) = []
refused_back (ask j q) = refused_to q
refused_back (ask_chain q) = chain_refused q
