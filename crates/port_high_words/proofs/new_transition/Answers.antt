-- `port_high_words::new_transition` meets its contract. Assumes nothing.
use Rattle.ground.proofs.Names.{sym, ap, tests}
use Rattle.port_registers.specs.PortRecord.{with_stored}
use Rattle.port_registers.specs.declared.PortRegisters.{PortRegisters}
use Rattle.port_registers.proofs.Detected.{while_off}
use Rattle.port_high_words.specs.PortHighWords.{new_stored}
use Rattle.port_high_words.proofs.new_transition.Goals as goal

pub returns-then-x-eq1 : goal.returns-then-x-eq1
returns-then-x-eq1 c = simp (c.settled.ensures, c.new_stored.ensures)

pub returns-else-x-eq1 : goal.returns-else-x-eq1
returns-else-x-eq1 c =
    let a = c.args in
    ap (λ (y : PortRegisters). y.transition) (sym (while_off (with_stored a.x (new_stored a.word a.x.stored)) (search tests)))
