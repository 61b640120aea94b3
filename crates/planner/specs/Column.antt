-- Auxiliary: where the words of one driver go in a list of accesses.
-- Assumes nothing.
use Rattle.std.specs.Prelude.{ℕ, ◌+◌, ◌*◌, ◌<◌, ◌≤◌, List, ◌≡◌, length}
use Rattle.planner.specs.OneDriver.{put}
use Rattle.planner.specs.declared.Column.{Column}

-- there is room for so many words
abbrev pub Room : Column → ℕ → Type 0
Room s count = (s.n ≤ 16) × (s.at + count * s.n < length s.list.now + s.n)

-- words are put into the same list, and the next goes after them
abbrev pub Puts : Column → Column → List ℕ → Type 0
Puts s t ws =
    (t.list.ghost_name ≡ s.list.ghost_name) × (t.list.now ≡ put s.list.now s.n s.at ws) × (t.n ≡ s.n) × (t.at ≡ s.at + length ws * s.n)
