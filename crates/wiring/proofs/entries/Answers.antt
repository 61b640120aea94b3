-- `wiring::entries` meets its contract. Assumes nothing.
use Rattle.ground.proofs.Names.{ℕ, ◌+◌, ◌-◌, ◌≤◌, arith, List, ◌≡◌, ◌∙◌, sym, length, take, drop, get_or, get_or-drop, length-drop, tabulate, tabulate_take, tabulate_ext}
use Rattle.wiring.specs.Table.{table}
use Rattle.wiring.proofs.entries.Goals as goal

-- 19 elements from one on
from : (s : ℕ) (t : List ℕ) → s + 19 ≤ length t → take 19 (drop s t) ≡ tabulate 19 (λ p. get_or t (s + p) 0)
from s t h = sym (tabulate_take 0 19 (drop s t) (rw length-drop (omega arith))) ∙ tabulate_ext 19 _ _ (λ p l. get_or-drop s t p 0)

pub returns : goal.returns
returns c =
    let n : c.args.start + 19 - c.args.start ≡ 19 = omega arith in
    rw n at c.copy_from_slice.ensures.after ∙ from c.args.start table c.requires
