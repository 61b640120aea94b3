-- `port_states::states` meets its contract. The invariant: k numbers are written, and the rest is as it was. Assumes nothing.
use Rattle.ground.proofs.Names.{◌+◌, arith, append-nil, ap, ◌∙◌, filled_start, filled_more, filled_all}
use Rattle.port_states.specs.PortStates.{port_number, states_of}
use Rattle.port_states.proofs.Driven.{numbers}
use Rattle.port_states.proofs.states.Goals as goal

pub loop-k-init : goal.loop-k-init
loop-k-init c = filled_start

pub number-requires : goal.number-requires
number-requires c = rw c.state.ensures (omega (arith, numbers c.args.x (c.loop-k.k + 4)))

pub loop-k-preserved : goal.loop-k-preserved
loop-k-preserved c = filled_more _ c.loop-k.invariant (omega arith) (omega arith) (c.number.ensures ∙ ap port_number c.state.ensures)

pub returns : goal.returns
unfolding states_of
returns c = filled_all c.loop-k.invariant (omega arith) ∙ append-nil _
