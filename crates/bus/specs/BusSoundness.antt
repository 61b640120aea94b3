-- Believed: document 02, request 3: after any list of calls on sound records and a sound bus state both are sound.
-- Assumes nothing.
use Rattle.std.specs.Prelude.{ℕ, true, List, ◌≡◌, length}
use Rattle.device.specs.declared.Device.{Device}
use Rattle.calls.specs.CallRefusals.{all_sound}
use Rattle.bus.specs.declared.Bus.{Bus}
use Rattle.bus.specs.States.{sound_bus}
use Rattle.bus.specs.BusCalls.{BusCall}
use Rattle.bus.specs.BusLists.{bus_all, parts_all}

-- for every list
abbrev pub BusSoundness : Type 0
BusSoundness =
    (σ : List ℕ) (qs : List BusCall) (b : Bus) (ds : List Device)
    → all_sound ds ≡ true
    → sound_bus (length ds) b ≡ true
    → (all_sound (parts_all σ qs b ds) ≡ true) × (sound_bus (length ds) (bus_all σ qs b ds) ≡ true)
