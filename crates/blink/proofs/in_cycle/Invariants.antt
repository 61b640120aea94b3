-- `blink::in_cycle` meets its contract. The invariant: what is left is below 2^k cycles, and has the same remainder. Assumes nothing.
use Rattle.ground.proofs.Names.{◌*◌, ◌%◌, ◌^◌, ◌<◌, ◌≤◌, ◌≡◌}
use Rattle.blink.proofs.in_cycle.Given as goal

abbrev pub invariant-loop-k : goal.invariant-loop-k
invariant-loop-k l = (l.k ≤ 11) × (l.left < 4000000 * 2 ^ l.k) × (l.left % 4000000 ≡ l.clocks % 4000000)

abbrev pub decreases-loop-k : goal.decreases-loop-k
decreases-loop-k l = l.k
