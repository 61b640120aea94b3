-- `lent::each_refusal` meets its contract. Assumes nothing.
use Rattle.ground.proofs.Names.{◌≡◌, ◌-◌, arith, sym, ap, ◌∙◌, length}
use Rattle.device.specs.PowerUp.{power_up}
use Rattle.device.specs.declared.Device.{Device}
use Rattle.pass.specs.Own.{own_of}
use Rattle.pass.specs.Found.{by_arguments, records_refusal}
use Rattle.pass.proofs.FoundLaws.{call_records, call_there}
use Rattle.lent.proofs.Passed.{default}
use Rattle.lent.proofs.each_refusal.Goals as goal

pub returns : goal.returns
returns c =
    let xs = c.args.chain.now in
    let j = c.args.driver in
    let z : by_arguments (length xs) j ≡ 0 = sym c.in_ok-by_arguments.ensures in
    let there = call_there xs j (own_of c.args.asked) z in
    c.records_refusal.ensures
    ∙ ap (λ (d : Device). records_refusal xs d.family (own_of c.args.asked)) (default _ power_up xs (j - 1) (omega (arith, there)))
    ∙ call_records xs j (own_of c.args.asked) z
