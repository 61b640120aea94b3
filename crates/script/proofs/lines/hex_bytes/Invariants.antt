-- `script::lines::hex_bytes` meets its contract. Assumes nothing.
use Rattle.printed.specs.Lines.{hex_byte}
use Rattle.text.proofs.Texts.{Texts}
use Rattle.script.proofs.lines.hex_bytes.Given as goal

abbrev pub invariant-loop-b : goal.invariant-loop-b
invariant-loop-b l = Texts hex_byte 2 l.bytes l.at l.initial.out l.b-index l.place l.out
