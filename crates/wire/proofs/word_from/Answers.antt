-- `wire::word_from` meets its contract, by the law `window_at`. Assumes nothing.
use Rattle.ground.proofs.Names.{sym, ap, ◌∙◌}
use Rattle.wire.specs.Bits.{value}
use Rattle.wire.proofs.ByteLaws.{window_at}
use Rattle.wire.proofs.word_from.Goals as goal

pub returns : goal.returns
returns c =
    c.window.ensures ∙ rw c.byte_or_zero-b2.ensures (sym (ap value (window_at c.args.bytes.now c.args.bit c.requires)))
