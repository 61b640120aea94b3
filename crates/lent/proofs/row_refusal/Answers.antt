-- `lent::row_refusal` meets its contract. Assumes nothing.
use Rattle.ground.proofs.Names.{ap, ◌∙◌}
use Rattle.pass.specs.Found.{call_refusal}
use Rattle.pass.proofs.FoundLaws.{row_found}
use Rattle.lent.proofs.row_refusal.Goals as goal

pub returns : goal.returns
returns c = c.call_refusal.ensures ∙ ap (call_refusal c.args.chain.now 1) c.row_own-asked.ensures ∙ row_found c.args.chain.now
