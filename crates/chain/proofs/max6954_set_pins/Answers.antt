-- `chain::max6954_set_pins` meets its contract. Assumes nothing.
use Rattle.ground.proofs.Names.{rules}
use Rattle.calls.specs.Calls.{levels}
use Rattle.shapes.proofs.Gives.{gave}
use Rattle.chain.proofs.max6954_set_pins.Goals as goal

pub returns : goal.returns
returns c =
    simp (c.number.ensures) (gave c.args.chain.now c.args.driver (levels c.args.levels) c.levels_refusal-asked.ensures.own c.given.ensures.number (λ z. search rules) c.given.ensures.refused)
