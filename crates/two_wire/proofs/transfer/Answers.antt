-- `two_wire::transfer` meets its contract. Assumes nothing.
use Rattle.std.specs.Prelude.{Some}
use Rattle.ground.proofs.Names.{◌≡◌, length, rules}
use Rattle.pass.specs.Found.{row_refusal}
use Rattle.transfers.specs.Transfers.{named, part_open}
use Rattle.shapes.proofs.Bytes.{part_there}
use Rattle.two_wire.proofs.transfer.Goals as goal

pub bounds-parts-part : goal.bounds-parts-part
bounds-parts-part c =
    let h : Some c.in-Some.part ≡ named (part_open (row_refusal c.args.parts.now) (length c.args.parts.now) c.args.bus c.args.straps.addresses) = cc in
    part_there c.args.parts.now c.args.bus c.args.straps.addresses h

pub offset_bounds-parts-part : goal.offset_bounds-parts-part
offset_bounds-parts-part c =
    let h : Some c.in-Some.part ≡ named (part_open (row_refusal c.args.parts.now) (length c.args.parts.now) c.args.bus c.args.straps.addresses) = cc in
    let l = part_there c.args.parts.now c.args.bus c.args.straps.addresses h in
    search rules
