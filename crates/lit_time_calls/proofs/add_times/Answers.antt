-- `lit_time_calls::add_times` meets its contract. Assumes nothing.
use Rattle.ground.proofs.Names.{ℕ, ◌+◌, arith, List, ◌≡◌, ◌∙◌, get_or, ap, get_d_tabulate}
use Rattle.lit_time.specs.LitTime.{lit_time}
use Rattle.lit_time_calls.proofs.TotalLaws.{added_same}
use Rattle.lit_time_calls.proofs.add_times.Goals as goal

pub overflow_add-totals-in-loop-d : goal.overflow_add-totals-in-loop-d
overflow_add-totals-in-loop-d c =
    let l = c.loop-d in
    let time : get_or c.cathode_times-times.result l.d 0 ≡ lit_time c.args.device l.d c.args.table.now c.args.table.now c.args.clocks =
    ap (λ (x : List ℕ). get_or x l.d 0) (c.cathode_times-times.ensures.clocked c.requires.blink_bound.0) ∙ get_d_tabulate 8 _ 0 l.d (omega arith) in
    omega (arith, l.invariant.1.above (c.args.at + l.d) (omega arith), c.requires.by_index l.d (omega arith), time)

pub returns : goal.returns
returns c =
    let e : c.loop-d.d ≡ 8 = omega arith in
    added_same (rw e at c.loop-d.invariant.1)
    (λ d h. ap (λ (x : List ℕ). get_or x d 0) (c.cathode_times-times.ensures.clocked c.requires.blink_bound.0) ∙ get_d_tabulate 8 _ 0 d h)
