-- Believed: document 01, "Script program", and document 02, request 1: the lines that the panel program prints, as bytes in ASCII: a newline, which ends each, is 10, a space 32, `0` 48, `1` 49,
-- `A` 65, `C` 67, `R` 82, `S` 83, `-` 45, `f` 102, `s` 115, and `chain` 99 104 97 105 110.
-- Assumes nothing.
use Rattle.std.specs.Prelude.{ℕ, ◌+◌, ◌/◌, ◌%◌, List, [], ◌∷◌, ◌++◌, eqb, ltb, take}
use Rattle.ground.specs.Choice.{if}
use Rattle.text.specs.Text.{each, digit}
use Rattle.refusals.specs.Refusals.{bytes_for}
use Rattle.display.specs.Pins.{pin_code}
use Rattle.display.specs.declared.Pin.TheVariants.{Cathode, Lit, Unlit}
use Rattle.calls.specs.Calls.{Call, access, give, ask, ask_chain}

-- in decimal, and the line's end; chains and numbers have at most two digits (`calls::order`)
abbrev pub decimal : ℕ → List ℕ
decimal n = if (ltb n 10) (digit n ∷ 10 ∷ []) (digit (n / 10) ∷ digit n ∷ 10 ∷ [])

-- `chain n`
abbrev pub chain_line : ℕ → List ℕ
chain_line n = 99 ∷ 104 ∷ 97 ∷ 105 ∷ 110 ∷ 32 ∷ decimal n

-- `R` and its number, for a refusal
abbrev pub refusal_line : ℕ → List ℕ
refusal_line n = 82 ∷ 32 ∷ decimal n

-- upper-case hex
abbrev pub hex_digit : ℕ → ℕ
hex_digit v = if (ltb v 10) (48 + v) (55 + v)

-- in whole bytes
abbrev pub hex_byte : ℕ → List ℕ
hex_byte b = hex_digit (b / 16) ∷ hex_digit (b % 16) ∷ []

-- `A` and the answer; `A` alone for 0 clocks
abbrev pub answer_line : List ℕ → List ℕ
answer_line [] = 65 ∷ 10 ∷ []
answer_line (b ∷ bs) = 65 ∷ 32 ∷ each hex_byte (b ∷ bs) ++ 10 ∷ []

-- a pin's letter: `C` cathode, `1` lit, `0` unlit, `-` not driven or carrying none
abbrev pub letter : ℕ → ℕ
letter p = if (eqb p (pin_code Cathode)) 67 (if (eqb p (pin_code Lit)) 49 (if (eqb p (pin_code Unlit)) 48 45))

-- the same, as a text
abbrev pub pin_text : ℕ → List ℕ
pin_text p = letter p ∷ []

-- request 1: `f` when the answer mark is set, `s` when not
abbrev pub mark_letter : ℕ → ℕ
mark_letter m = if (eqb m 0) 115 102

-- `S` and 19 letters, O0 first; the mark's letter ends the line
abbrev pub show_line : List ℕ → ℕ → List ℕ
show_line pins mark = 83 ∷ 32 ∷ each pin_text pins ++ 32 ∷ mark_letter mark ∷ 10 ∷ []

-- what a call prints, by its number, what it gave back, and the answer mark of the driver that it names: served scans, pin levels and clocks print
-- nothing, and no record asks the chain anything
abbrev pub line_for : Call → ℕ → List ℕ → ℕ → List ℕ
line_for (access c sent room) number back mark = if (eqb number 0) (answer_line (take (bytes_for c) back)) (refusal_line number)
line_for (give j s) number back mark = if (eqb number 0) [] (refusal_line number)
line_for (ask j q) number back mark = if (eqb number 0) (show_line back mark) (refusal_line number)
line_for (ask_chain q) number back mark = if (eqb number 0) [] (refusal_line number)
