-- `stopping_word::stopping_place` meets its contract. The invariant: no word after the first k stops, so the place is that of these. Assumes nothing.
use Rattle.ground.proofs.Names.{◌≤◌, ◌≡◌, length, take}
use Rattle.look_back.specs.Stops.{last_place}
use Rattle.stopping_word.specs.Masks.{stops_under}
use Rattle.stopping_word.proofs.stopping_place.Given as goal

abbrev pub invariant-loop-k : goal.invariant-loop-k
invariant-loop-k l =
    (l.k ≤ length l.words) × (last_place (stops_under l.mask l.pattern) l.words ≡ last_place (stops_under l.mask l.pattern) (take l.k l.words))

abbrev pub decreases-loop-k : goal.decreases-loop-k
decreases-loop-k l = l.k
