-- `port_states::states` meets its contract. The invariant: k numbers are written, and the rest is as it was. Assumes nothing.
use Rattle.ground.proofs.Names.{◌+◌, Filled}
use Rattle.port_states.specs.PortStates.{state_of, port_number}
use Rattle.port_states.proofs.states.Given as goal

abbrev pub invariant-loop-k : goal.invariant-loop-k
invariant-loop-k l = Filled 28 (λ q. port_number (state_of l.x (q + 4))) l.initial.numbers l.numbers l.k
