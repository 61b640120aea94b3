-- Believed: document 01, "Demand 3's list and lone driver", and document 02, request 8: for rows that mix both families.
-- Assumes nothing.
use Rattle.std.specs.Prelude.{ℕ, ◌-◌, ◌*◌, ◌≤◌, Bool, true, List, [], ◌∷◌, ◌++◌, map, ◌≡◌, eqb, length}
use Rattle.ground.specs.Choice.{if}
use Rattle.wire.specs.Bits.{bits, value, unpack, word_at}
use Rattle.device.specs.Families.{takes, families}
use Rattle.device.specs.declared.Device.{Device}
use Rattle.calls.specs.Calls.{Question, Call, access, give, ask, ask_chain}
use Rattle.calls.specs.CallRefusals.{all_sound, refusal_by}
use Rattle.calls.specs.Served.{record_of, stepped, answer_to}
use Rattle.calls.specs.Outcome.{reply}
use Rattle.calls.specs.CallLists.{after_all, numbers, replies}

-- the number that the table gives a call on n sound records of these families, by its arguments alone: 13, which the records decide, is left out
abbrev pub refusal_alone : ℕ → List ℕ → Call → ℕ
refusal_alone n fs q = refusal_by n fs true 0 q

-- accepted means that the table gives 0
abbrev pub accepted : ℕ → List ℕ → Call → Bool
accepted n fs q = eqb (refusal_alone n fs q) 0

-- of the n words in bytes, the first is driver n's, the last driver 1's
abbrev pub own_word : ℕ → ℕ → List ℕ → ℕ
own_word n i bytes = word_at (unpack bytes) (n - i)

-- what an accepted call makes of the lone driver, driver i of n: of an access it takes its own word and obeys it; a step is for its driver; what is
-- asked changes nothing
abbrev pub lone_step : ℕ → ℕ → Call → Device → Device
lone_step n i (access c sent room) d = takes d (own_word n i sent)
lone_step n i (give j s) d = if (eqb j i) (stepped s d) d
lone_step n i (ask j q) d = d
lone_step n i (ask_chain q) d = d

-- what it answers to an accepted call: to an access its shift word, by its 16 bits; to a question for its driver from its record
abbrev pub lone_reply : ℕ → Call → Device → List (List ℕ)
lone_reply i (access c sent room) d = (value (bits 16 d.shift) ∷ []) ∷ []
lone_reply i (give j s) d = []
lone_reply i (ask j q) d = if (eqb j i) (answer_to q d ∷ []) []
lone_reply i (ask_chain q) d = []

-- what driver i of n has answered, in what the chain gave back to an accepted call
abbrev pub answered_by : ℕ → ℕ → Call → List ℕ → List (List ℕ)
answered_by n i (access c sent room) back = (own_word n i back ∷ []) ∷ []
answered_by n i (give j s) back = []
answered_by n i (ask j q) back = if (eqb j i) (back ∷ []) []
answered_by n i (ask_chain q) back = []

-- the lone driver after one call; a refused one does nothing
abbrev pub lone_after : ℕ → List ℕ → ℕ → Call → Device → Device
lone_after n fs i q d = if (accepted n fs q) (lone_step n i q d) d

-- the lone driver after a list of calls
unfoldable pub lone : ℕ → List ℕ → ℕ → List Call → Device → Device
lone n fs i [] d = d
lone n fs i (q ∷ qs) d = lone n fs i qs (lone_after n fs i q d)

-- all that the lone driver answers to a list of calls
unfoldable pub lone_replies : ℕ → List ℕ → ℕ → List Call → Device → List (List ℕ)
lone_replies n fs i [] d = []
lone_replies n fs i (q ∷ qs) d = if (accepted n fs q) (lone_reply i q d) [] ++ lone_replies n fs i qs (lone_after n fs i q d)

-- all that driver i of the chain has answered to a list of calls
unfoldable pub all_answered_by : ℕ → List ℕ → ℕ → List Call → List (List ℕ) → List (List ℕ)
all_answered_by n fs i [] backs = []
all_answered_by n fs i (q ∷ qs) [] = []
all_answered_by n fs i (q ∷ qs) (back ∷ backs) = if (accepted n fs q) (answered_by n i q back) [] ++ all_answered_by n fs i qs backs

-- an accepted access has 16n clocks
abbrev pub Full : ℕ → List ℕ → Call → Type 0
Full n fs (access c sent room) = accepted n fs (access c sent room) ≡ true → c ≡ 16 * n
Full n fs (give j s) = Unit {0}
Full n fs (ask j q) = Unit {0}
Full n fs (ask_chain q) = Unit {0}

-- so has every accepted access of a list
unfoldable pub AllFull : ℕ → List ℕ → List Call → Type 0
AllFull n fs [] = Unit {0}
AllFull n fs (q ∷ qs) = Full n fs q × AllFull n fs qs

-- the number of an access, a step or a question: what the chain is asked has no lone driver's number
abbrev pub own_number : Call → ℕ → List ℕ
own_number (access c sent room) k = k ∷ []
own_number (give j s) k = k ∷ []
own_number (ask j q) k = k ∷ []
own_number (ask_chain q) k = []

-- of a whole list
unfoldable pub own_numbers : List Call → List ℕ → List ℕ
own_numbers [] ks = []
own_numbers (q ∷ qs) [] = []
own_numbers (q ∷ qs) (k ∷ ks) = own_number q k ++ own_numbers qs ks

-- after a list of calls on a chain, driver i is as it would be alone
pub record Alone (qs : List Call) (ds : List Device) (i : ℕ) : Type 0 where
  -- every access's, step's and question's number is the one that its arguments alone have
  pub same_numbers : own_numbers qs (numbers qs ds) ≡ own_numbers qs (map (refusal_alone (length ds) (families ds)) qs)
  -- every driver keeps its family
  pub same_families : families (after_all qs ds) ≡ families ds
  -- its record is the lone driver's
  pub same_record : record_of (after_all qs ds) i ≡ lone (length ds) (families ds) i qs (record_of ds i)
  -- it has answered what the lone driver answers, in order
  pub same_answers : all_answered_by (length ds) (families ds) i qs (replies qs ds) ≡ lone_replies (length ds) (families ds) i qs (record_of ds i)
  -- its outputs are the lone driver's: the interrupt, the answer mark, the plane shown, each cathode's pins under any glyph tables, each digit's brightness; of a MAX6957 what each
  -- port drives
  pub same_outputs : (q : Question) → accepted (length ds) (families ds) (ask i q) ≡ true
      → reply (ask i q) (after_all qs ds) ≡ answer_to q (lone (length ds) (families ds) i qs (record_of ds i))

-- demand 3: for sound records, over any list of calls in which accepted accesses have 16n clocks, each driver
abbrev pub Isolation : Type 0
Isolation =
    (qs : List Call) (ds : List Device)
    → all_sound ds ≡ true
    → AllFull (length ds) (families ds) qs
    → (i : ℕ)
    → 1 ≤ i
    → i ≤ length ds
    → Alone qs ds i
