-- `ports::port_by_port` meets its contract. Assumes nothing.
use Rattle.ports.proofs.Ported.{port_by_port}
use Rattle.ports.proofs.port_by_port.Tie as tie

pub port_by_port_spec : {M : Type 1} → Rattle.ports.proofs.port_by_port.Statement.statement M
port_by_port_spec = tie.close (tie.spec (λ c. port_by_port))
