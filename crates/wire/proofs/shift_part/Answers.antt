-- `wire::shift_part` meets its contract, by the laws of an access by one line of bytes. Assumes nothing.
use Rattle.ground.proofs.Names.{arith, refl, ◌∙◌, length, replicate}
use Rattle.wire.proofs.LineLaws.{bytes_fit}
use Rattle.wire.proofs.AccessLaws.{line_words, line_answer}
use Rattle.wire.proofs.shift_part.Goals as goal

pub returns : goal.returns
returns c =
    let a = c.args in
    let ws = a.words.now in
    let n = length ws in
    let old = bytes_fit ws (replicate 64 0) n _ refl (omega arith) c.write_bytes.ensures in (
      rw (line_words ws a.sent.now n a.clocks refl c.requires.2 _ _ _ old c.copy_bytes.ensures (omega arith)) c.write_words.ensures,
      c.clear_spare.ensures ∙ line_answer ws a.sent.now n a.clocks refl c.requires.2 _ _ _ old c.copy_bytes.ensures (omega arith) a.room.now _ c.copy_bytes-2.ensures,
    )
