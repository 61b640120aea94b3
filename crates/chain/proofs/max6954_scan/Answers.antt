-- `chain::max6954_scan` meets its contract. Assumes nothing.
use Rattle.ground.proofs.Names.{rules}
use Rattle.calls.specs.Calls.{scan}
use Rattle.shapes.proofs.Gives.{gave}
use Rattle.chain.proofs.max6954_scan.Goals as goal

pub returns : goal.returns
returns c =
    simp (c.number.ensures) (gave c.args.chain.now c.args.driver (scan c.args.a c.args.b c.args.c c.args.d) c.scan_refusal-asked.ensures c.given.ensures.number (λ z. search rules) c.given.ensures.refused)
