-- `chain::max6957_ports` meets its contract. Assumes nothing.
use Rattle.ground.proofs.Names.{refl}
use Rattle.refusals.proofs.RefusalLaws.{row_number}
use Rattle.calls.specs.Calls.{ports}
use Rattle.shapes.proofs.Asks.{asked, unasked}
use Rattle.chain.proofs.max6957_ports.Goals as goal

pub returns-in-Err : goal.returns-in-Err
returns-in-Err c = rw (rw c.from.ensures at c.ports_refused.ensures) (unasked c.args.chain.now c.args.driver (ports) c.ports_refusal-asked.ensures c.in-Err.ensures (row_number _))

pub returns-in-Ok : goal.returns-in-Ok
returns-in-Ok c = rw (c.ports.ensures) (asked c.args.chain.now c.args.driver (ports) c.ports_refusal-asked.ensures c.in-Ok.ensures _ refl)
