-- Believed: document 01, "Script program": the records of a script.
-- Assumes nothing.
use Rattle.std.specs.Prelude.{ℕ, zero, suc, ◌+◌, ◌*◌, ◌-◌, Bool, false, ◌&&◌, List, [], ◌∷◌, eqb, leb, length, get_or, take, drop, replicate}
use Rattle.ground.specs.Choice.{if}
use Rattle.ground.specs.Lists.{tabulate}
use Rattle.calls.specs.Calls.{scan, levels, clocks, segments, Call, access, give, ask}

-- byte k, 0 past the end
abbrev pub byte : List ℕ → ℕ → ℕ
byte s k = get_or s k 0

-- two bytes from k on, high first
abbrev pub word : List ℕ → ℕ → ℕ
word s k = 256 * byte s k + byte s (k + 1)

-- a record: mark 5A C3, kind byte, two-byte body length (high first), body
abbrev pub kind_of : List ℕ → ℕ
kind_of s = byte s 2

-- the body's length
abbrev pub body_length : List ℕ → ℕ
body_length s = word s 3

-- the record's length
abbrev pub size_of : List ℕ → ℕ
size_of s = 5 + body_length s

-- the body
abbrev pub body_of : List ℕ → List ℕ
body_of s = take (body_length s) (drop 5 s)

-- bodies are 1, at least 2, 5, 2, 5 and 2 bytes long; other kinds are unknown
abbrev pub length_fits : ℕ → ℕ → Bool
length_fits kind n =
    if (eqb kind 1) (eqb n 1)
    (if (eqb kind 2) (leb 2 n)
    (if (eqb kind 3) (eqb n 5) (if (eqb kind 4) (eqb n 2) (if (eqb kind 5) (eqb n 5) (if (eqb kind 6) (eqb n 2) false)))))

-- no wrong mark, no unknown kind, not cut, and a length that fits its kind: else 8
abbrev pub well_formed : List ℕ → Bool
well_formed s =
    leb 5 (length s) && eqb (byte s 0) 0x5A && eqb (byte s 1) 0xC3 && leb (size_of s) (length s) && length_fits (kind_of s) (body_length s)

-- the room that the program lends for answer bytes: enough for 4,096 clocks
abbrev pub answer_room : List ℕ
answer_room = replicate 512 0

-- the test table that it lends for both displays: entry k is 257 times k
abbrev pub test_table : List ℕ
test_table = tabulate 128 (λ k. 257 * k)

-- kinds 2 to 6: access (two-byte clocks, bits), scan (driver, A to D), pins (driver, levels), clocks (driver, four bytes, high first), show (driver, cathode)
abbrev pub call_of : ℕ → List ℕ → Call
call_of kind b =
    if (eqb kind 2) (access (word b 0) (drop 2 b) answer_room)
    (if (eqb kind 3) (give (byte b 0) (scan (byte b 1) (byte b 2) (byte b 3) (byte b 4)))
    (if (eqb kind 4) (give (byte b 0) (levels (byte b 1)))
    (if (eqb kind 5) (give (byte b 0) (clocks (65536 * word b 1 + word b 3)))
    (ask (byte b 0) (segments (byte b 1) test_table test_table)))))

-- what a record says
pub data Item : Type 0 where
  -- kind 1: the chain's length
  chain : ℕ → Item
  -- kinds 2 to 6
  call : Call → Item
  -- what gives 8
  malformed : Item

-- the record at the start of some bytes
abbrev pub item_at : List ℕ → Item
item_at s = if (well_formed s) (if (eqb (kind_of s) 1) (chain (byte s 5)) (call (call_of (kind_of s) (body_of s)))) malformed

-- the records after the first k bytes, each where the one before it ends; what stands after a malformed one doesn't count
unfoldable pub items_after : ℕ → List ℕ → List Item
items_after k [] = []
items_after zero (b ∷ s) = item_at (b ∷ s) ∷ items_after (size_of (b ∷ s) - 1) s
items_after (suc k) (b ∷ s) = items_after k s

-- the records of a script
abbrev pub items : List ℕ → List Item
items s = items_after 0 s
