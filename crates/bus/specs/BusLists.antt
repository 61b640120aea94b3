-- Believed: document 02, request 3: a list of calls on one bus, each on the records and the bus state that the last one left.
-- Assumes nothing.
use Rattle.std.specs.Prelude.{ℕ, List, [], ◌∷◌}
use Rattle.device.specs.declared.Device.{Device}
use Rattle.bus.specs.declared.Bus.{Bus}
use Rattle.bus.specs.BusCalls.{BusCall}
use Rattle.bus.specs.BusOutcome.{number, bus_after, parts_after, reply}

-- the bus state after the list
unfoldable pub bus_all : List ℕ → List BusCall → Bus → List Device → Bus
bus_all σ [] b ds = b
bus_all σ (q ∷ qs) b ds = bus_all σ qs (bus_after σ q b ds) (parts_after σ q b ds)

-- the records after the list
unfoldable pub parts_all : List ℕ → List BusCall → Bus → List Device → List Device
parts_all σ [] b ds = ds
parts_all σ (q ∷ qs) b ds = parts_all σ qs (bus_after σ q b ds) (parts_after σ q b ds)

-- the number of each call
unfoldable pub numbers : List ℕ → List BusCall → Bus → List Device → List ℕ
numbers σ [] b ds = []
numbers σ (q ∷ qs) b ds = number σ q b ds ∷ numbers σ qs (bus_after σ q b ds) (parts_after σ q b ds)

-- what each call gives back
unfoldable pub replies : List ℕ → List BusCall → Bus → List Device → List (List ℕ)
replies σ [] b ds = []
replies σ (q ∷ qs) b ds = reply σ q b ds ∷ replies σ qs (bus_after σ q b ds) (parts_after σ q b ds)
