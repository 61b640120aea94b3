-- `wire::shift_whole` meets its contract, by the laws of an access by whole words. Assumes nothing.
use Rattle.ground.proofs.Names.{arith, refl, ◌∙◌, length}
use Rattle.wire.proofs.LineLaws.{bytes_fit}
use Rattle.wire.proofs.AccessLaws.{sent_words, whole_answer}
use Rattle.wire.proofs.shift_whole.Goals as goal

pub returns : goal.returns
returns c =
    let a = c.args in
    let ws = a.words.now in
    let n = length ws in
    let old = bytes_fit ws a.room.now n _ refl (omega arith) c.write_bytes.ensures in (
      rw (sent_words ws a.sent.now n a.clocks refl c.requires.2 c.requires.1) c.write_words.ensures,
      c.clear_spare.ensures ∙ whole_answer ws a.sent.now n a.clocks refl c.requires.2 c.requires.1 a.room.now _ _ old c.copy_bytes.ensures,
    )
