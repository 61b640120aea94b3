-- `chain::given` meets its contract. Assumes nothing.
use Rattle.ground.proofs.Names.{◌≡◌, ◌-◌, arith, refl, sym, subst}
use Rattle.device.specs.PowerUp.{power_up}
use Rattle.device.specs.declared.Device.{Device}
use Rattle.pass.specs.Own.{own_of}
use Rattle.pass.specs.Found.{call_refusal}
use Rattle.pass.proofs.FoundLaws.{in_range}
use Rattle.lent.proofs.Passed.{default}
use Rattle.chain.specs.contracts.given.F-FnOnce.{words}
use Rattle.chain.proofs.given.Goals as goal

pub returns-clause-served : goal.returns-clause-served
returns-clause-served g c =
    let xs = c.args.chain.now in
    let z : call_refusal xs c.args.driver (own_of c.args.asked) ≡ 0 = sym c.in_ok-call_refusal.ensures in
    let there = in_range xs c.args.driver (own_of c.args.asked) z in
    λ z. (
      c.step.result,
      subst (λ (x : Device). (words g.row.F g.F.FnOnce).post c.args.step x c.step.result) (default _ power_up xs (c.args.driver - 1) (omega (arith, there))) c.step.ensures,
      refl,
    )
