-- Believed: DECISIONS 53, a script run into lent room: what the call leaves there. 5 is tested before document 01's 9.
-- Assumes nothing.
use Rattle.std.specs.Prelude.{ℕ, ◌+◌, ◌*◌, List, ◌++◌, Result, Ok, Err, eqb, ltb, length, drop}
use Rattle.ground.specs.Choice.{if}
use Rattle.refusals.specs.Numbers.{number_by}
use Rattle.refusals.specs.declared.Refusal.{Refusal}
use Rattle.printed.specs.Script.{longest, printed}
use Rattle.printed.specs.Ran.{Ran}

-- room that always suffices, by the script's length: a record prints at most four bytes for each of its own
abbrev pub room_for : ℕ → ℕ
room_for n = if (ltb longest n) 4 (16 + 4 * n)

-- 5: less room than that
abbrev pub run_number : ℕ → ℕ → ℕ
run_number n room = if (ltb room (room_for n)) 5 0

-- the number, and how many bytes are printed
abbrev pub ran_of : List ℕ → List ℕ → Ran
ran_of s out =
    if (eqb (run_number (length s) (length out)) 0)
    (record { number = 0; length = length (printed s) })
    (record { number = 5; length = 0 })

-- the same, of a call that gives how many bytes are printed, or why it is refused
abbrev pub ran_by : Result ℕ Refusal → Ran
ran_by (Ok n) = record { number = 0; length = n }
ran_by (Err refusal) = record { number = number_by refusal; length = 0 }

-- the room after it: what is printed, and the bytes after it as they were; where refused nothing changes
abbrev pub out_after : List ℕ → List ℕ → List ℕ
out_after s out = if (eqb (run_number (length s) (length out)) 0) (printed s ++ drop (length (printed s)) out) out
