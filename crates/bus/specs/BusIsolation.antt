-- Believed: document 02, request 3, demand 3 for the two-wire bus: whose transaction a call belongs to, by arguments alone, and the lone part.
-- Assumes nothing.
use Rattle.std.specs.Prelude.{ℕ, ◌/◌, ◌≤◌, Bool, true, false, ◌&&◌, List, [], ◌∷◌, map, ◌≡◌, eqb, length}
use Rattle.ground.specs.Choice.{if}
use Rattle.device.specs.Families.{families}
use Rattle.device.specs.declared.Device.{Device}
use Rattle.calls.specs.Calls.{Question}
use Rattle.calls.specs.CallRefusals.{all_sound}
use Rattle.calls.specs.Served.{record_of, answer_to}
use Rattle.bus.specs.declared.Bus.{Bus}
use Rattle.bus.specs.Straps.{strap_of}
use Rattle.bus.specs.States.{sound_bus}
use Rattle.bus.specs.BusCalls.{BusCall, start, put, get, stop, give, ask}
use Rattle.bus.specs.BusRefusals.{bus_refusal_by}
use Rattle.bus.specs.BusOutcome.{reply}
use Rattle.bus.specs.BusLists.{bus_all, parts_all, numbers, replies}

-- the number that the table gives a call on n sound parts of these families, by its arguments alone
abbrev pub refusal_alone : ℕ → List ℕ → List ℕ → BusCall → ℕ
refusal_alone n fs σ q = bus_refusal_by n fs true σ q

-- accepted means that the table gives 0
abbrev pub accepted : ℕ → List ℕ → List ℕ → BusCall → Bool
accepted n fs σ q = eqb (refusal_alone n fs σ q) 0

-- the transaction that is open, as part i's: none or another's; one whose slave byte has not come; its own
pub data Turn : Type 0 where
  closed : Turn
  fresh : Turn
  ours : Turn

-- at a bus state
abbrev pub turn_at : ℕ → Bus → Turn
turn_at i b = if (eqb b.part 0) (if (eqb b.phase 1) fresh closed) (if (eqb b.part i) ours closed)

-- a byte given while the slave byte is awaited names part i where its upper seven bits are the part's strap
abbrev pub names_part : List ℕ → ℕ → ℕ → Bool
names_part σ i v = eqb (strap_of σ i) (v / 2)

-- after an accepted call
abbrev pub turn_next : List ℕ → ℕ → BusCall → Turn → Turn
turn_next σ i start t = fresh
turn_next σ i (put v) closed = closed
turn_next σ i (put v) fresh = if (names_part σ i v) ours closed
turn_next σ i (put v) ours = ours
turn_next σ i get t = t
turn_next σ i stop t = closed
turn_next σ i (give j x) t = t
turn_next σ i (ask j x) t = t

-- after any call
abbrev pub follows : ℕ → List ℕ → List ℕ → ℕ → BusCall → Turn → Turn
follows n fs σ i q t = if (accepted n fs σ q) (turn_next σ i q t) t

-- by an accepted call, whether the transaction whose slave byte has not come is part i's; later: what the rest of the list says
abbrev pub named_now : List ℕ → ℕ → BusCall → Bool → Bool
named_now σ i start later = false
named_now σ i (put v) later = names_part σ i v
named_now σ i get later = later
named_now σ i stop later = false
named_now σ i (give j x) later = later
named_now σ i (ask j x) later = later

-- whether the next slave byte of a list names part i
unfoldable pub named : ℕ → List ℕ → List ℕ → ℕ → List BusCall → Bool
named n fs σ i [] = false
named n fs σ i (q ∷ qs) = if (accepted n fs σ q) (named_now σ i q (named n fs σ i qs)) (named n fs σ i qs)

-- whether the transaction that is open before a list is part i's
abbrev pub names : ℕ → List ℕ → List ℕ → ℕ → Turn → List BusCall → Bool
names n fs σ i closed qs = false
names n fs σ i fresh qs = named n fs σ i qs
names n fs σ i ours qs = true

-- whether an accepted call, before the rest of its list, is part i's: a start belongs to the transaction that it opens
abbrev pub own : ℕ → List ℕ → List ℕ → ℕ → Turn → BusCall → List BusCall → Bool
own n fs σ i t start qs = named n fs σ i qs
own n fs σ i t (put v) qs = names n fs σ i t (put v ∷ qs)
own n fs σ i t get qs = names n fs σ i t (get ∷ qs)
own n fs σ i t stop qs = names n fs σ i t (stop ∷ qs)
own n fs σ i t (give j x) qs = eqb j i
own n fs σ i t (ask j x) qs = eqb j i

-- whether the lone part is given a call
abbrev pub heard : ℕ → List ℕ → List ℕ → ℕ → Turn → BusCall → List BusCall → Bool
heard n fs σ i t q qs = accepted n fs σ q && own n fs σ i t q qs

-- a call as the lone part is given it: it is part 1
abbrev pub alone : BusCall → BusCall
alone start = start
alone (put v) = put v
alone get = get
alone stop = stop
alone (give j x) = give 1 x
alone (ask j x) = ask 1 x

-- what the lone part is given of a list
unfoldable pub mine : ℕ → List ℕ → List ℕ → ℕ → Turn → List BusCall → List BusCall
mine n fs σ i t [] = []
mine n fs σ i t (q ∷ qs) =
    if (heard n fs σ i t q qs) (alone q ∷ mine n fs σ i (follows n fs σ i q t) qs) (mine n fs σ i (follows n fs σ i q t) qs)

-- what the whole bus gave back to these calls
unfoldable pub own_replies : ℕ → List ℕ → List ℕ → ℕ → Turn → List BusCall → List (List ℕ) → List (List ℕ)
own_replies n fs σ i t [] rs = []
own_replies n fs σ i t (q ∷ qs) [] = []
own_replies n fs σ i t (q ∷ qs) (r ∷ rs) =
    if (heard n fs σ i t q qs) (r ∷ own_replies n fs σ i (follows n fs σ i q t) qs rs) (own_replies n fs σ i (follows n fs σ i q t) qs rs)

-- the bus state of the lone part
abbrev pub view_of : ℕ → Bus → Bus
view_of i b =
    if (eqb b.part 0) b (if (eqb b.part i) (record { part = 1; phase = b.phase }) (record { part = 0; phase = 0 }))

-- part i with its strap at the first of the lone bus's places, whatever stands at the others, given its own calls alone
module _ (σ rest : List ℕ) (qs : List BusCall) (b : Bus) (ds : List Device) (i : ℕ) where
  abbrev pub lone_straps : List ℕ
  lone_straps = strap_of σ i ∷ rest

  abbrev pub lone_calls : List BusCall
  lone_calls = mine (length ds) (families ds) σ i (turn_at i b) qs

  abbrev pub lone_part : Device
  lone_part = record_of (parts_all lone_straps lone_calls (view_of i b) (record_of ds i ∷ [])) 1

  -- after a list of calls on a bus, part i is as it would be alone
  pub record Alone : Type 0 where
    -- every call's number is the one that its arguments alone have
    pub same_numbers : numbers σ qs b ds ≡ map (refusal_alone (length ds) (families ds) σ) qs
    -- the lone bus refuses none of its calls
    pub lone_numbers : numbers lone_straps lone_calls (view_of i b) (record_of ds i ∷ []) ≡ map (λ (q : BusCall). 0) lone_calls
    -- its record is the lone part's
    pub same_record : record_of (parts_all σ qs b ds) i ≡ lone_part
    -- its own calls were answered as the lone bus answers them, in order
    pub same_answers : own_replies (length ds) (families ds) σ i (turn_at i b) qs (replies σ qs b ds) ≡ replies lone_straps lone_calls (view_of i b) (record_of ds i ∷ [])
    -- its outputs are the lone part's: the interrupt, the plane shown, each cathode's pins under any glyph tables, each digit's brightness
    pub same_outputs : (x : Question) → accepted (length ds) (families ds) σ (ask i x) ≡ true
        → reply σ (ask i x) (bus_all σ qs b ds) (parts_all σ qs b ds) ≡ answer_to x lone_part

-- demand 3 for this bus: sixteen straps, sound records, a sound bus state, any list of calls, each part
abbrev pub BusIsolation : Type 0
BusIsolation =
    (σ rest : List ℕ) (qs : List BusCall) (b : Bus) (ds : List Device)
    → length σ ≡ 16
    → all_sound ds ≡ true
    → sound_bus (length ds) b ≡ true
    → (i : ℕ)
    → 1 ≤ i
    → i ≤ length ds
    → Alone σ rest qs b ds i
