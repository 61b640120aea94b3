-- Auxiliary: the parts of a run: what the functions behind it leave. Nothing here is needed to read what a run prints.
-- Assumes nothing.
use Rattle.std.specs.Prelude.{ℕ, ◌+◌, ◌*◌, ◌≤◌, List, [], ◌≡◌, eqb}
use Rattle.ground.specs.Choice.{if}
use Rattle.calls.specs.Calls.{Call}
use Rattle.row.specs.Row.{records, number_on, reply_on, done_on}
use Rattle.row.specs.declared.Row.{Row}
use Rattle.row.specs.declared.Done.{Done}
use Rattle.printed.specs.Lines.{refusal_line, line_for}
use Rattle.printed.specs.Script.{named_mark}
use Rattle.text.specs.Written.{Written}
use Rattle.script.specs.declared.Progress.{Progress}

-- what a call on a row prints
abbrev pub line_on : Row → Call → List ℕ
line_on r q = line_for q (number_on r q) (reply_on r q) (named_mark q (records r))

-- a refusal's line, or none, after a call that leaves `done`
pub record Given (done : Done) (at : ℕ) (out out' : List ℕ) (p : Progress) : Type 0 where
  pub row_after : p.row ≡ done.row
  pub line : Written (if (eqb done.number 0) [] (refusal_line done.number)) at out out' p.at
  pub short : p.at ≤ at + 5

-- a call on a row, and its line written; the line is at most four bytes long for each of the record's size
pub record Obeyed (r : Row) (q : Call) (size at : ℕ) (out out' : List ℕ) (p : Progress) : Type 0 where
  pub row_after : p.row ≡ (done_on r q).row
  pub line : Written (line_on r q) at out out' p.at
  pub short : p.at ≤ at + 4 * size
