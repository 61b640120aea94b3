-- `wire::write_bytes` meets its contract. The invariant: the bytes of the last j words are written, and the rest is as it was. Assumes nothing.
use Rattle.ground.proofs.Names.{◌-◌, ◌*◌, arith, ◌≡◌, refl, ◌∙◌, length, length-set, lt-ltb, le-ltb}
use Rattle.wire.proofs.LineLaws.{bytes_none, bytes_more}
use Rattle.wire.proofs.write_bytes.Goals as goal

pub loop-j-init : goal.loop-j-init
loop-j-init c = (omega arith, refl, bytes_none c.args.words.now _)

pub loop-j-preserved : goal.loop-j-preserved
loop-j-preserved c =
    let a = c.args in
    let l = c.loop-j in
    let fits = c.type_inv.words (length a.words.now - 1 - l.j) in (
      omega arith,
      simp length-set l.invariant.1,
      rw (l.invariant.2, c.to_be_bytes.ensures) (bytes_more a.words.now a.room.now l.j _ _ (omega arith) (omega arith) (omega arith) refl),
    )

pub returns : goal.returns
returns c =
    let a = c.args in
    let l = c.loop-j in
    let e : l.j ≡ length a.words.now = omega arith in
    let z : length a.words.now - length a.words.now ≡ 0 = omega arith in
    l.invariant.2 ∙ rw (e, z, le-ltb (length a.room.now) (2 * length a.words.now) (omega arith))

pub returns-then-room-n : goal.returns-then-room-n
returns-then-room-n c = let a = c.args in rw (lt-ltb (length a.room.now) (2 * length a.words.now) (omega arith))
