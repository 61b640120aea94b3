-- Believed: document 02, request 3, and document 01, "Numbers a call may give": one call on the two-wire bus, its number, the bus state and the records after it, and what it gives back.
-- Assumes nothing.
use Rattle.std.specs.Prelude.{ℕ, ◌&&◌, List, eqb, length}
use Rattle.ground.specs.Choice.{if}
use Rattle.device.specs.Families.{families}
use Rattle.device.specs.declared.Device.{Device}
use Rattle.bus.specs.declared.Bus.{Bus}
use Rattle.bus.specs.States.{state_of, bus_of}
use Rattle.bus.specs.BusCalls.{BusCall, on_bus}
use Rattle.bus.specs.BusRefusals.{bus_refusal_by, sound_for}
use Rattle.bus.specs.BusServed.{next, served, given_back, refused_back}

-- the number of a call under straps σ: 0 where it is served
unfoldable pub number : List ℕ → BusCall → Bus → List Device → ℕ
number σ q b ds = bus_refusal_by (length ds) (families ds) (sound_for q b ds) σ q

-- the bus state after it: apart from 0 nothing changes, and a call that takes no bus state leaves it as it was
unfoldable pub bus_after : List ℕ → BusCall → Bus → List Device → Bus
bus_after σ q b ds = if (on_bus q && eqb (number σ q b ds) 0) (bus_of (next (length ds) σ q (state_of b))) b

-- the records after it
unfoldable pub parts_after : List ℕ → BusCall → Bus → List Device → List Device
parts_after σ q b ds = if (eqb (number σ q b ds) 0) (served q (state_of b) ds) ds

-- what it gives back beside its number and the bus state
unfoldable pub reply : List ℕ → BusCall → Bus → List Device → List ℕ
reply σ q b ds = if (eqb (number σ q b ds) 0) (given_back (length ds) σ q (state_of b) ds) (refused_back q)

-- the one result of a call and the one state that it leaves
pub record BusOutcome : Type 0 where
  pub number : ℕ
  pub bus : Bus
  pub records : List Device
  pub back : List ℕ

-- of a call on the bus
abbrev pub bus_outcome : List ℕ → BusCall → Bus → List Device → BusOutcome
bus_outcome σ q b ds = record { number = number σ q b ds; bus = bus_after σ q b ds; records = parts_after σ q b ds; back = reply σ q b ds }
