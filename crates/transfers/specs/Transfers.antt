-- Auxiliary: a call on the two-wire bus by value, from the number that its records give. `bus_outcome` of `bus` is what is believed.
-- Assumes nothing.
use Rattle.std.specs.Prelude.{ℕ, zero, suc, List, [], ◌∷◌, Option, None, Some, eqb, get_or, take}
use Rattle.ground.specs.Choice.{if}
use Rattle.refusals.specs.Refusals.{sound_refusal, clash_refusal, address_refusal, first_of}
use Rattle.device.specs.declared.Device.{Device}
use Rattle.bus.specs.declared.Bus.{Bus}
use Rattle.bus.specs.Straps.{matched, distinct, seven_bits}
use Rattle.bus.specs.declared.Use.{Use}
use Rattle.bus.specs.States.{use_at, state_of, bus_of, sound_bus}
use Rattle.bus.specs.BusCalls.{BusCall, put, get}
use Rattle.bus.specs.BusServed.{put_state, given, asked, nobody, put_reply, asked_reply}
use Rattle.transfers.specs.declared.BusAnswer.{BusAnswer}
use Rattle.transfers.specs.declared.ByteAnswer.{ByteAnswer}
use Rattle.transfers.specs.declared.Byte.{Byte}
use Rattle.transfers.specs.declared.Byte.TheVariants.{Given, Asked}

-- the number of a start, a byte or a stop, where early is that of the records
-- (14, of the records' families, comes after 7 of the bus state, 10 and 11)
unfoldable pub refusal_from : ℕ → ℕ → Bus → List ℕ → ℕ
refusal_from early n b σ =
    first_of (if (eqb early 14) 0 early ∷ sound_refusal (sound_bus n b) ∷ clash_refusal (distinct (take n σ)) ∷ address_refusal (seven_bits (take n σ)) ∷ early ∷ [])

-- a start's or a stop's answer, with the bus state that it leaves where it is served
abbrev pub moved : ℕ → Bus → Bus → BusAnswer
moved k b left = record { number = k; bus = if (eqb k 0) left b }

-- the part whose open transfer a byte reaches; 0 where it is refused or none is open
abbrev pub part_open : ℕ → ℕ → Bus → List ℕ → ℕ
part_open early n b σ = if (eqb (refusal_from early n b σ) 0) b.part 0

-- as a part that may be there; 0 is none
abbrev pub named : ℕ → Option ℕ
named zero = None
named (suc k) = Some (suc k)

-- the part with the address at a place; 0 where there is none
abbrev pub part_at : Option ℕ → ℕ
part_at None = 0
part_at (Some k) = suc k

-- a reply, by the data of a byte that is acknowledged: acknowledged and data
abbrev pub reply_of : Option ℕ → List ℕ
reply_of None = nobody
reply_of (Some v) = 1 ∷ v ∷ []

-- the answer to a byte that is served
abbrev pub byte_answer : Bus → List ℕ → ByteAnswer
byte_answer b back = record { number = 0; bus = b; acknowledged = get_or back 0 0; «data» = get_or back 1 0 }

-- and to one that is refused
abbrev pub refused_byte : ℕ → Bus → ByteAnswer
refused_byte k b = record { number = k; bus = b; acknowledged = 0; «data» = 0 }

-- to a byte given, which as a slave byte names part m
abbrev pub put_answer : ℕ → ℕ → Bus → ByteAnswer
put_answer m v b = byte_answer (bus_of (put_state m v (state_of b))) (put_reply m (state_of b))

-- to a byte given, by no record
abbrev pub write_free : ℕ → ℕ → Bus → List ℕ → ℕ → ByteAnswer
write_free early n b σ v =
    if (eqb (refusal_from early n b σ) 0) (put_answer (matched n σ v) v b) (refused_byte (refusal_from early n b σ) b)

-- to a byte asked for where no transfer is open
abbrev pub read_free : ℕ → ℕ → Bus → List ℕ → ByteAnswer
read_free early n b σ = if (eqb (refusal_from early n b σ) 0) (byte_answer b nobody) (refused_byte (refusal_from early n b σ) b)

-- to a byte asked for of the part whose transfer is open
abbrev pub read_open : Device → Bus → ByteAnswer
read_open d b = byte_answer b (asked_reply (use_at b.phase) d)

-- to a byte given or asked for, by no record
abbrev pub byte_free : ℕ → ℕ → Bus → List ℕ → Byte → ByteAnswer
byte_free early n b σ (Given v) = write_free early n b σ v
byte_free early n b σ Asked = read_free early n b σ

-- and of the part whose transfer is open
abbrev pub byte_open : Byte → Device → Bus → ByteAnswer
byte_open (Given v) d b = put_answer 0 v b
byte_open Asked d b = read_open d b

-- the record of that part after it
abbrev pub byte_left : Byte → Use → Device → Device
byte_left (Given v) u d = given u v d
byte_left Asked u d = asked u d

-- the call that it is
abbrev pub byte_call : Byte → BusCall
byte_call (Given v) = put v
byte_call Asked = get
