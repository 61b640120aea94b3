-- `lent::call_refusal` meets its contract. The invariant: what the records so far tell, and that their bytes are bytes. Assumes nothing.
use Rattle.ground.proofs.Names.{◌≡◌, take}
use Rattle.pass.specs.Widths.{no_widths, widths_of, AllBytes}
use Rattle.lent.proofs.call_refusal.Given as goal

abbrev pub invariant-loop-d : goal.invariant-loop-d
invariant-loop-d l = (l.widths ≡ widths_of no_widths (take l.d-index l.chain)) × AllBytes (take l.d-index l.chain)
