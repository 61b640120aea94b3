-- `transfers::distinct` meets its contract. Assumes nothing.
use Rattle.ground.proofs.Names.{◌≡◌, length}
use Rattle.bus.specs.Straps.{distinct}
use Rattle.transfers.proofs.distinct.Given as goal

abbrev pub invariant-loop-first : goal.invariant-loop-first
invariant-loop-first l = distinct l.addresses ≡ distinct l.rest

abbrev pub decreases-loop-first : goal.decreases-loop-first
decreases-loop-first l = length l.rest
