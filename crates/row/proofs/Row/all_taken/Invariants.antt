-- `row::Row::all_taken` meets its contract. The invariant: the first i records took their words. Assumes nothing.
use Rattle.ground.proofs.Names.{◌≡◌, get_or, Filled}
use Rattle.device.specs.PowerUp.{power_up}
use Rattle.device.specs.Families.{takes}
use Rattle.row.proofs.Row.all_taken.Given as goal

abbrev pub invariant-loop-at : goal.invariant-loop-at
invariant-loop-at l =
    (l.self.n ≡ l.initial.self.n) × Filled l.n (λ i. takes (get_or l.initial.self.devices i power_up) (get_or l.words i 0)) l.initial.self.devices l.self.devices l.at
