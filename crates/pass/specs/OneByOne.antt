-- Auxiliary: what a pass over a chain's records leaves when it has come to the k-th. `shift_words` and `all_taken` of `calls` are what is believed.
-- Assumes nothing.
use Rattle.std.specs.Prelude.{ℕ, List, ◌++◌, get_or, drop}
use Rattle.ground.specs.Lists.{tabulate}
use Rattle.device.specs.PowerUp.{power_up}
use Rattle.device.specs.Families.{takes}
use Rattle.device.specs.declared.Device.{Device}

-- the shift words of the first k records, in front of words that are there
abbrev pub words_to : List Device → List ℕ → ℕ → List ℕ
words_to ds ws k = tabulate k (λ i. (get_or ds i power_up).shift) ++ drop k ws

-- the records, of which the first k took their words
abbrev pub taken_to : List Device → List ℕ → ℕ → List Device
taken_to ds ws k = tabulate k (λ i. takes (get_or ds i power_up) (get_or ws i 0)) ++ drop k ds
