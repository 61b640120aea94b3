-- `shown_pins::pins_of` meets its contract: byte by byte. Assumes nothing.
use Rattle.ground.proofs.Names.{div-one, tabulate}
use Rattle.shown_pins.proofs.pins_of.Goals as goal

pub returns : goal.returns
unfolding tabulate
returns c =
    rw (
      c.copy_from_slice.ensures.after,
      c.copy_from_slice-2.ensures.after,
      c.copy_from_slice-3.ensures.after,
      c.to_le_bytes.ensures,
      c.to_le_bytes-2.ensures,
      c.to_le_bytes-3.ensures,
    )
    (simp div-one)
