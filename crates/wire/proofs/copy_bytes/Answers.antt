-- `wire::copy_bytes` meets its contract. The invariant: k bytes are copied, and the rest is as it was. Assumes nothing.
use Rattle.ground.proofs.Names.{add-one, arith, ◌≡◌, refl, ◌∙◌, length-set, paste-zero, paste-suc}
use Rattle.wire.proofs.copy_bytes.Goals as goal

pub loop-k-init : goal.loop-k-init
loop-k-init c = (refl, paste-zero c.args.to.now c.args.at c.args.from.now)

pub loop-k-preserved : goal.loop-k-preserved
loop-k-preserved c =
    let a = c.args in
    let l = c.loop-k in (
      simp length-set l.invariant.0,
      rw (l.invariant.1, add-one) (paste-suc a.to.now a.at a.from.now l.k 0 (omega arith) (omega arith)),
    )
