-- Believed: document 02, request 6; house: the numbers 1, 4 and 5 of the table refuse, as in an access, and the room after the 2n bytes stays.
-- Assumes nothing.
use Rattle.std.specs.Prelude.{ℕ, ◌+◌, ◌*◌, List, [], ◌∷◌, ◌++◌, eqb, ltb, length, drop}
use Rattle.ground.specs.Choice.{if}
use Rattle.ground.specs.Lists.{Agree}
use Rattle.refusals.specs.Refusals.{chain_refusal, first_of}
use Rattle.redraw.specs.Sent.{bytes_at}

-- the number, for n drivers, so many words in the list, an access from 0 and so much room: 4 where the list lacks that access, 5 where 2n bytes have no room
abbrev pub bytes_number : ℕ → ℕ → ℕ → ℕ → ℕ
bytes_number n words access room = first_of (chain_refusal n ∷ if (ltb words ((access + 1) * n)) 4 0 ∷ if (ltb room (2 * n)) 5 0 ∷ [])

-- the lent bytes after the call: those of the access and what stood after them, or where it is refused, as they were
abbrev pub bytes_after : ℕ → List ℕ → ℕ → List ℕ → List ℕ
bytes_after n list access bytes = if (eqb (bytes_number n (length list) access (length bytes)) 0) (bytes_at n list access ++ drop (2 * n) bytes) bytes

-- two accesses for two drivers
abbrev pub two_accesses : List ℕ
two_accesses = 0x0203 ∷ 0x0405 ∷ 0x0607 ∷ 0x0809 ∷ []

-- the bytes of an access, and where it is refused, the bytes as they were
abbrev pub byte_rows : List (List ℕ × List ℕ)
byte_rows =
    (bytes_after 2 two_accesses 0 (1 ∷ 1 ∷ 1 ∷ 1 ∷ []), 0x04 ∷ 0x05 ∷ 0x02 ∷ 0x03 ∷ [])
    ∷ (bytes_after 2 two_accesses 1 (1 ∷ 1 ∷ 1 ∷ 1 ∷ 0xAA ∷ 0xBB ∷ []), 0x08 ∷ 0x09 ∷ 0x06 ∷ 0x07 ∷ 0xAA ∷ 0xBB ∷ [])
    ∷ (bytes_after 1 two_accesses 3 (1 ∷ 1 ∷ 1 ∷ []), 0x08 ∷ 0x09 ∷ 1 ∷ [])
    ∷ (bytes_after 2 two_accesses 2 (1 ∷ 2 ∷ 3 ∷ 4 ∷ []), 1 ∷ 2 ∷ 3 ∷ 4 ∷ [])
    ∷ (bytes_after 2 two_accesses 1 (1 ∷ 2 ∷ 3 ∷ []), 1 ∷ 2 ∷ 3 ∷ [])
    ∷ []

-- the numbers
abbrev pub number_rows : List (ℕ × ℕ)
number_rows =
    (bytes_number 2 4 1 4, 0)
    -- no access 2 in four words for two, nor access 1 in three
    ∷ (bytes_number 2 4 2 4, 4)
    ∷ (bytes_number 2 3 1 4, 4)
    ∷ (bytes_number 2 4 1 3, 5)
    -- 0 or more than 16 drivers
    ∷ (bytes_number 0 4 1 4, 1)
    ∷ (bytes_number 16 16 0 32, 0)
    ∷ (bytes_number 17 34 1 34, 1)
    -- 1 before 4 before 5
    ∷ (bytes_number 17 0 0 0, 1)
    ∷ (bytes_number 2 0 0 0, 4)
    ∷ []

-- what the definitions give is what the request says
pub record BytesExamples : Type 0 where
  pub told : Agree number_rows
  pub sent : Agree byte_rows
