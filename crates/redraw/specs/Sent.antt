-- Believed: document 02, request 6, and document 01, "Bits on the wire": a list of accesses given to the chain.
-- Assumes nothing.
use Rattle.std.specs.Prelude.{ℕ, ◌*◌, ◌/◌, ◌<◌, ◌≤◌, true, List, ◌≡◌, length, take, drop}
use Rattle.ground.specs.Lists.{tabulate}
use Rattle.wire.specs.Line.{word_bytes}
use Rattle.device.specs.Families.{families}
use Rattle.device.specs.declared.Device.{Device}
use Rattle.plans.specs.Lists.{record_at, wanted_at, AcceptedList, Given}
use Rattle.calls.specs.Calls.{Call, access}
use Rattle.calls.specs.CallRefusals.{families_below}
use Rattle.calls.specs.CallLists.{after_all}

-- the 2n bytes of access a, from 0, of a list for n drivers: driver n's word first
abbrev pub bytes_at : ℕ → List ℕ → ℕ → List ℕ
bytes_at n list a = word_bytes (take n (drop (a * n) list))

-- its accesses in order, each with 16n clocks and the same room for answers
abbrev pub accesses_of : ℕ → List ℕ → List ℕ → List Call
accesses_of n list room = tabulate (length list / n) (λ a. access (16 * n) (bytes_at n list a) room)

-- an accepted list, given access by access to a chain of at most sixteen drivers of the old family, ends in the wanted planes
abbrev pub Sent : Type 0
Sent =
    (ds : List Device) (wanted list room : List ℕ)
    → Given ds wanted
    → families_below 1 (families ds) ≡ true
    → length ds ≤ 16
    → 2 * length ds ≤ length room
    → AcceptedList ds wanted list
    → (i : ℕ)
    → i < length ds
    → (record_at (after_all (accesses_of (length ds) list room) ds) i).registers.planes ≡ wanted_at wanted i
