-- `wire::window` meets its contract, by the law `window_bits`. Assumes nothing.
use Rattle.ground.proofs.Names.{◌+◌, ◌*◌, ◌≡◌, arith, sym}
use Rattle.wire.proofs.ByteLaws.{window_bits}
use Rattle.wire.proofs.window.Goals as goal

pub returns : goal.returns
returns c =
    let e : c.from_be_bytes-v.result ≡ c.args.b0 * 65536 + c.args.b1 * 256 + c.args.b2 = omega arith in
    rw e (sym (window_bits c.args.b0 c.args.b1 c.args.b2 c.args.off c.ranges.b0.fits c.ranges.b1.fits c.ranges.b2.fits c.requires))
