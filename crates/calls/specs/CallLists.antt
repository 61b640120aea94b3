-- Believed: document 01, "Demand 3's list and lone driver": a list of calls on one chain's records.
-- Assumes nothing.
use Rattle.std.specs.Prelude.{ℕ, List, [], ◌∷◌}
use Rattle.device.specs.declared.Device.{Device}
use Rattle.calls.specs.Calls.{Call}
use Rattle.calls.specs.Outcome.{number, after, reply}

-- the records after the list
unfoldable pub after_all : List Call → List Device → List Device
after_all [] ds = ds
after_all (q ∷ qs) ds = after_all qs (after q ds)

-- the number of each call
unfoldable pub numbers : List Call → List Device → List ℕ
numbers [] ds = []
numbers (q ∷ qs) ds = number q ds ∷ numbers qs (after q ds)

-- what each call gives back
unfoldable pub replies : List Call → List Device → List (List ℕ)
replies [] ds = []
replies (q ∷ qs) ds = reply q ds ∷ replies qs (after q ds)
