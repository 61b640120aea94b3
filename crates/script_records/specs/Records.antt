-- Auxiliary: where a run starts, and the call that a record is, by its kind and body.
-- Assumes nothing.
use Rattle.std.specs.Prelude.{ℕ, ◌+◌, ◌*◌, ◌≤◌, List, ◌≡◌, eqb, length, drop}
use Rattle.ground.specs.Choice.{if}
use Rattle.calls.specs.Calls.{scan, levels, clocks, Call, access, give}
use Rattle.printed.specs.Format.{byte, word, items}
use Rattle.printed.specs.Script.{chain_in, others_in}
use Rattle.script_records.specs.declared.Start.{Start}

-- where a run starts: the chain's length, and where the other records stand
pub record Started (s : List ℕ) (p : Start) : Type 0 where
  pub chain_length : p.n ≡ chain_in (items s)
  pub others : items (drop p.from s) ≡ others_in (items s)
  pub within : p.from ≤ length s

-- the call of an access record, by its body and the room that is lent for the answer
abbrev pub access_of : List ℕ → List ℕ → Call
access_of b room = access (word b 0) (drop 2 b) room

-- the clocks of a clocks record, by its body
abbrev pub clocks_of : List ℕ → ℕ
clocks_of b = 65536 * word b 1 + word b 3

-- the call of a record of kind 3, 4 or 5; any other counts as 5
abbrev pub step_of : ℕ → List ℕ → Call
step_of kind b =
    give (byte b 0) (if (eqb kind 3) (scan (byte b 1) (byte b 2) (byte b 3) (byte b 4)) (if (eqb kind 4) (levels (byte b 1)) (clocks (clocks_of b))))
