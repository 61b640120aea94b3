-- Believed: document 02, request 9: lists of words and the byte that they leave, each kind of word at which a look back stops or doesn't.
-- Assumes nothing.
use Rattle.std.specs.Prelude.{ℕ, List, [], ◌∷◌}
use Rattle.ground.specs.Lists.{Agree}
use Rattle.words.specs.declared.Plane.TheVariants.{P0, P1}
use Rattle.device.specs.PowerUp.{power_up}
use Rattle.device.specs.Taken.{taken}
use Rattle.device.specs.declared.Device.{Device}
use Rattle.look_back.specs.LookBack.{byte_after, look_back_answer}
use Rattle.look_back.specs.Stops.{stopping_place}

-- a driver whose digit 3 holds 0x33 in P0 and 0x44 in P1
abbrev pub start : Device
start = taken (taken power_up 0x2333) 0x4344

-- after 2301 and one word more: digit 3 in P0, and the stopping place; then the same in P1
abbrev pub after : ℕ → List ℕ
after w =
    byte_after start P0 3 (0x2301 ∷ w ∷ [])
    ∷ stopping_place P0 3 (0x2301 ∷ w ∷ [])
    ∷ byte_after start P1 3 (0x2301 ∷ w ∷ [])
    ∷ stopping_place P1 3 (0x2301 ∷ w ∷ [])
    ∷ []

-- the word, and what stands there
abbrev pub rows : List (List ℕ × List ℕ)
rows =
    -- a write to the digit in P0, in P1, in both
    (after 0x2302, 0x02 ∷ 2 ∷ 0x44 ∷ 0 ∷ [])
    ∷ (after 0x4303, 0x01 ∷ 1 ∷ 0x03 ∷ 2 ∷ [])
    ∷ (after 0x6304, 0x04 ∷ 2 ∷ 0x04 ∷ 2 ∷ [])
    -- a clear, with T and without
    ∷ (after 0x0420, 0 ∷ 2 ∷ 0 ∷ 2 ∷ [])
    ∷ (after 0x04FF, 0 ∷ 2 ∷ 0 ∷ 2 ∷ [])
    -- a configuration write with T and all others, but not R
    ∷ (after 0x0410, 0x01 ∷ 1 ∷ 0x44 ∷ 0 ∷ [])
    ∷ (after 0x04DF, 0x01 ∷ 1 ∷ 0x44 ∷ 0 ∷ [])
    -- reads of the digit and of the configuration
    ∷ (after 0xA305, 0x01 ∷ 1 ∷ 0x44 ∷ 0 ∷ [])
    ∷ (after 0xC305, 0x01 ∷ 1 ∷ 0x44 ∷ 0 ∷ [])
    ∷ (after 0xE305, 0x01 ∷ 1 ∷ 0x44 ∷ 0 ∷ [])
    ∷ (after 0x8420, 0x01 ∷ 1 ∷ 0x44 ∷ 0 ∷ [])
    -- writes to other digits, to digit 3a, to an unlisted address, to another register with D5
    ∷ (after 0x6206, 0x01 ∷ 1 ∷ 0x44 ∷ 0 ∷ [])
    ∷ (after 0x6B06, 0x01 ∷ 1 ∷ 0x44 ∷ 0 ∷ [])
    ∷ (after 0x7306, 0x01 ∷ 1 ∷ 0x44 ∷ 0 ∷ [])
    ∷ (after 0x0520, 0x01 ∷ 1 ∷ 0x44 ∷ 0 ∷ [])
    ∷ []

-- the answer's number and byte for plane, digit and words
abbrev pub answers : ℕ → ℕ → List ℕ → List ℕ
answers plane digit ws = (look_back_answer start plane digit ws).number ∷ (look_back_answer start plane digit ws).byte ∷ []

-- by plane and digit: the last word that stops counts, no word falls back on the record, a plane above 1 or a digit above 15 is refused
abbrev pub answer_rows : List (List ℕ × List ℕ)
answer_rows =
    (answers 0 3 (0x6301 ∷ 0x0420 ∷ 0x2302 ∷ 0x4303 ∷ 0x0000 ∷ []), 0 ∷ 0x02 ∷ [])
    ∷ (answers 1 3 (0x6301 ∷ 0x0420 ∷ 0x2302 ∷ 0x4303 ∷ 0x0000 ∷ []), 0 ∷ 0x03 ∷ [])
    ∷ (answers 0 15 (0x2F7F ∷ 0x4F01 ∷ []), 0 ∷ 0x7F ∷ [])
    ∷ (answers 0 3 [], 0 ∷ 0x33 ∷ [])
    ∷ (answers 1 3 (0x2302 ∷ []), 0 ∷ 0x44 ∷ [])
    ∷ (answers 2 3 (0x6301 ∷ []), 6 ∷ 0 ∷ [])
    ∷ (answers 0 16 (0x6301 ∷ []), 6 ∷ 0 ∷ [])
    ∷ []

-- what the definitions give is what the request says
pub record Examples : Type 0 where
  pub stopped : Agree rows
  pub answered : Agree answer_rows
