-- `lit_time_code::cathode_times` meets its contract. Assumes nothing.
use Rattle.ground.proofs.Names.{arith, filled_start, filled_more}
use Rattle.lit_time_code.proofs.cathode_times.Goals as goal

pub loop-d-init : goal.loop-d-init
loop-d-init c = (filled_start, λ h. filled_start)

pub loop-d-preserved : goal.loop-d-preserved
loop-d-preserved c =
    let p = c.p0_clocks-p0.ensures.0 in
    let i = c.loop-d.invariant in
    let e = c.cathode_time.ensures in (
      filled_more _ i.0 (omega arith) (omega arith) (rw p at e.equation),
      λ h. filled_more _ (i.1 h) (omega arith) (omega arith) (e.clocked h p),
    )
