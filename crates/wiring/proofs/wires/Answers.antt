-- `wiring::wires` meets its contract. Assumes nothing.
use Rattle.ground.proofs.Names.{◌∙◌, le-ltb, tabulate}
use Rattle.wiring.proofs.Wired.{wired_row}
use Rattle.wiring.proofs.wires.Goals as goal

pub returns-then-cathode-lt8 : goal.returns-then-cathode-lt8
returns-then-cathode-lt8 c = c.entries.ensures ∙ wired_row c.args.display _ _ c.if-cathode-lt8.true c.display_index.ensures.value

pub returns-else-cathode-lt8 : goal.returns-else-cathode-lt8
unfolding tabulate
returns-else-cathode-lt8 c = simp (le-ltb _ 8 c.if-cathode-lt8.false)
