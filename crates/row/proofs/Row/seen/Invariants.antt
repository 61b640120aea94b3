-- `row::Row::seen` meets its contract. The invariant: what the first i records tell. Assumes nothing.
use Rattle.ground.proofs.Names.{◌≡◌, take}
use Rattle.pass.specs.Seen.{no_seen, seen_of}
use Rattle.row.proofs.Row.seen.Given as goal

abbrev pub invariant-loop-i : goal.invariant-loop-i
invariant-loop-i l = (l.w ≡ seen_of no_seen (take l.i l.self.devices))
