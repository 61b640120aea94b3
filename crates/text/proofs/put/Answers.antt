-- `text::put` meets its contract. Assumes nothing.
use Rattle.ground.proofs.Names.{arith, rules}
use Rattle.text.proofs.Room.{put_place, put_room, left_out}
use Rattle.text.proofs.put.Goals as goal

pub returns-then-out-at : goal.returns-then-out-at
returns-then-out-at c = let a = c.args in let r = left_out a.bytes.now a.at a.out.now (omega arith) in record { place = r.0; room = r.1 }

pub returns-then-out-at-2 : goal.returns-then-out-at-2
returns-then-out-at-2 c = let a = c.args in let r = left_out a.bytes.now a.at a.out.now (omega arith) in record { place = r.0; room = r.1 }

pub returns : goal.returns
returns c =
    let a = c.args in
    record { place = put_place a.bytes.now a.at a.out.now (omega arith); room = put_room a.bytes.now a.at a.out.now _ _ (omega arith) (omega arith) (search rules) }
