-- `wiring::packed_row` meets its contract. Assumes nothing.
use Rattle.ground.proofs.Names.{arith, le-ltb}
use Rattle.wiring.proofs.Packing.{packed_row_lem}
use Rattle.wiring.proofs.packed_row.Goals as goal

pub returns-then-cathode-gt7 : goal.returns-then-cathode-gt7
returns-then-cathode-gt7 c = rw (le-ltb c.args.cathode 8 c.if-cathode-gt7.true)

pub returns : goal.returns
returns c = rw (c.first_pins.ensures, c.list-list.ensures) (packed_row_lem c.args.display c.args.cathode (omega arith))
