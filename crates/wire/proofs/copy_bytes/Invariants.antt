-- `wire::copy_bytes` meets its contract. The invariant: k bytes are copied, and the rest is as it was. Assumes nothing.
use Rattle.ground.proofs.Names.{◌≡◌, length, paste}
use Rattle.wire.proofs.copy_bytes.Given as goal

abbrev pub invariant-loop-k : goal.invariant-loop-k
invariant-loop-k l = (length l.to ≡ length l.initial.to) × (l.to ≡ paste l.initial.to l.at l.from l.k)
