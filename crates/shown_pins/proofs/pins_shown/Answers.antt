-- `shown_pins::pins_shown` meets its contract. Assumes nothing.
use Rattle.ground.proofs.Names.{sym, ◌∙◌, arith, tabulate}
use Rattle.shown_pins.proofs.PinsLaws.{pins_dark, pins_lit}
use Rattle.shown_pins.proofs.pins_shown.Goals as goal

pub returns-then-is_dark : goal.returns-then-is_dark
unfolding tabulate
returns-then-is_dark c =
    let a = c.args in
    pins_dark a.device a.cathode a.font14.now a.font16.now (sym c.is_dark.ensures ∙ c.if-is_dark.true)

pub returns : goal.returns
returns c =
    let a = c.args in
    let plane = c.shown-plane.ensures in
    let byte = rw plane at c.digit-byte.ensures in
    let byte_a = rw plane at c.digit-a.ensures in
    let display = c.display_by-display.ensures in
    c.pins_by.ensures
    ∙ pins_lit a.device a.cathode a.font14.now a.font16.now
    (omega (arith, c.digit-byte.type_inv, byte))
    (omega (arith, c.digit-a.type_inv, byte_a))
    (λ i. (c.shared_slice_known-1.given i).fits)
    (λ i. (c.shared_slice_known-2-1.given i).fits)
    c.requires
    (omega (arith, c.shown_segments-segments.type_inv))
    (sym c.is_dark.ensures ∙ c.if-is_dark.false)
    display
    (c.shown_segments-segments.ensures ∙ rw (byte, byte_a, display, c.bit_at-hex.ensures))
    c.packed_row-row.ensures
