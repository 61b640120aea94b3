-- A pass over the records, one by one: the shift words that it copies, and the words that the records take.
-- Assumes nothing.
use Rattle.ground.proofs.Names.{ℕ, ◌+◌, ◌≤◌, ◌<◌, arith, List, ◌≡◌, ap, ◌∙◌, length, get_or, set, length-append, length-drop, length_tabulate, tabulate_none, tabulate_step, tabulate_rest}
use Rattle.device.specs.PowerUp.{power_up}
use Rattle.device.specs.Families.{takes}
use Rattle.device.specs.declared.Device.{Device}
use Rattle.pass.specs.OneByOne.{words_to, taken_to}

module _ (ds : List Device) (ws : List ℕ) where
  pub words_start : ws ≡ words_to ds ws 0
  words_start = tabulate_none _ ws

  pub words_more : (i : ℕ) → i < length ws → set (words_to ds ws i) i (get_or ds i power_up).shift ≡ words_to ds ws (i + 1)
  words_more i h = tabulate_step 0 i _ ws h

  pub length_words : (k : ℕ) → k ≤ length ws → length (words_to ds ws k) ≡ length ws
  length_words k h = rw (length-append, length_tabulate, length-drop) (omega arith)

  pub taken_start : ds ≡ taken_to ds ws 0
  taken_start = tabulate_none _ ds

  pub taken_more : (i : ℕ) → i < length ds → set (taken_to ds ws i) i (takes (get_or (taken_to ds ws i) i power_up) (get_or ws i 0)) ≡ taken_to ds ws (i + 1)
  taken_more i h = ap (λ (d : Device). set (taken_to ds ws i) i (takes d (get_or ws i 0))) (tabulate_rest power_up i _ ds) ∙ tabulate_step power_up i _ ds h

  pub length_taken : (k : ℕ) → k ≤ length ds → length (taken_to ds ws k) ≡ length ds
  length_taken k h = rw (length-append, length_tabulate, length-drop) (omega arith)
