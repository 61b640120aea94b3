-- `lent::records_refusal` meets its contract. The invariant: what the records so far tell, and that their bytes are bytes. Assumes nothing.
use Rattle.ground.proofs.Names.{◌≡◌, take}
use Rattle.pass.specs.Seen.{no_seen, seen_of}
use Rattle.pass.specs.Widths.{AllBytes}
use Rattle.lent.proofs.records_refusal.Given as goal

abbrev pub invariant-loop-d : goal.invariant-loop-d
invariant-loop-d l = (l.seen ≡ seen_of no_seen (take l.d-index l.chain)) × AllBytes (take l.d-index l.chain)
