-- Believed: document 01, "Numbers a call may give", and document 02's: the number of each row, and of what a call gives.
-- Assumes nothing.
use Rattle.std.specs.Prelude.{ℕ, Result, Ok, Err}
use Rattle.refusals.specs.declared.Refusal.{Refusal}
use Rattle.refusals.specs.declared.Refusal.TheVariants.{Chain, Driver, Clocks, Sent, Room, Argument, Unsound, Record, Script, Clash, Address, Wanted, List, Lacked}

-- the number of a row
abbrev pub number_by : Refusal → ℕ
number_by Chain = 1
number_by Driver = 2
number_by Clocks = 3
number_by Sent = 4
number_by Room = 5
number_by Argument = 6
number_by Unsound = 7
number_by Record = 8
number_by Script = 9
number_by Clash = 10
number_by Address = 11
number_by Wanted = 12
number_by List = 13
number_by Lacked = 14

-- 0 where a call is served
abbrev pub number_of : {A : Type 0} → Result A Refusal → ℕ
number_of (Ok _) = 0
number_of (Err refusal) = number_by refusal
