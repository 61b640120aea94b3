-- `wire::write_bytes` meets its contract. The invariant: the bytes of the last j words are written, and the rest is as it was. Assumes nothing.
use Rattle.ground.proofs.Names.{◌-◌, ◌*◌, ◌≤◌, ◌++◌, ◌≡◌, length, drop}
use Rattle.wire.specs.Line.{word_bytes}
use Rattle.wire.proofs.write_bytes.Given as goal

abbrev pub invariant-loop-j : goal.invariant-loop-j
invariant-loop-j l =
    (l.j ≤ l.n) × (length l.room ≡ length l.initial.room) × (l.room ≡ word_bytes (drop (l.n - l.j) l.words) ++ drop (2 * l.j) l.initial.room)
