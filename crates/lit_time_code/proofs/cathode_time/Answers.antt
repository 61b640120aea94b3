-- `lit_time_code::cathode_time` meets its contract. Assumes nothing.
use Rattle.ground.proofs.Names.{◌+◌}
use Rattle.lit_time.specs.Closed.{byte_in, Typed}
use Rattle.lit_time.proofs.Closing.{in_both, by_weights}
use Rattle.lit_time_code.proofs.cathode_time.Goals as goal

pub returns-clause-clocked : goal.returns-clause-clocked
returns-clause-clocked c =
    let a = c.args in
    let first = c.weight_in-first.ensures in
    let second = c.weight_in-second.ensures in
    let t : Typed a.device a.cathode a.font14.now a.font16.now =
    record {
      byte = in_both (λ p. byte_in a.device p a.cathode) 256 first.bytes.0 second.bytes.0;
      byte_a = in_both (λ p. byte_in a.device p (a.cathode + 8)) 256 first.bytes.1 second.bytes.1;
      words14 = λ i. (c.type_inv.font14 i).fits;
      words16 = λ i. (c.type_inv.font16 i).fits;
      cathode = c.requires.cathode_bound;
    } in
    λ h e. rw (by_weights a.device a.cathode a.font14.now a.font16.now a.clocks t h, ← e, first.value, second.value)
