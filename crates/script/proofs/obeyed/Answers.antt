-- `script::obeyed` meets its contract. Assumes nothing.
use Rattle.ground.proofs.Names.{arith}
use Rattle.script.proofs.RunLaws.{number_small}
use Rattle.script.proofs.obeyed.Goals as goal

pub given-requires : goal.given-requires
given-requires c = rw c.give.ensures (number_small c.args.row _, omega arith)
