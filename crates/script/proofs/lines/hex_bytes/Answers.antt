-- `script::lines::hex_bytes` meets its contract. Assumes nothing.
use Rattle.ground.proofs.Names.{towards_suc, arith, refl}
use Rattle.text.proofs.Texts.{texts_more, texts_all}
use Rattle.script.proofs.lines.hex_bytes.Goals as goal

pub loop-b-preserved : goal.loop-b-preserved
loop-b-preserved c = texts_more _ c.loop-b.invariant (omega arith) refl (simp (towards_suc, c.hex_digit.ensures, c.hex_digit-in-loop-b.ensures))

pub returns : goal.returns
returns c = texts_all c.loop-b.invariant (omega arith)
