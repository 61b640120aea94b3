-- `chain::max6954_add_clocks` meets its contract. Assumes nothing.
use Rattle.ground.proofs.Names.{rules}
use Rattle.calls.specs.Calls.{clocks}
use Rattle.shapes.proofs.Gives.{gave}
use Rattle.chain.proofs.max6954_add_clocks.Goals as goal

pub returns : goal.returns
returns c =
    simp (c.number.ensures) (gave c.args.chain.now c.args.driver (clocks c.args.clocks) c.clocks_refusal-asked.ensures c.given.ensures.number (λ z. search rules) c.given.ensures.refused)
