-- Believed: document 01, "Segments and brightness": "no call changes it", of the fitted bytes of a chain over any list of calls.
-- Assumes nothing.
use Rattle.std.specs.Prelude.{ℕ, List, map, ◌≡◌}
use Rattle.device.specs.declared.Device.{Device}
use Rattle.calls.specs.Calls.{Call}
use Rattle.calls.specs.CallLists.{after_all}

-- the fitted bytes, driver 1's first
abbrev pub fitted_bytes : List Device → List ℕ
fitted_bytes ds = map (λ (d : Device). d.fitted) ds

-- after any calls, accepted or refused, on records of either family, sound or not
abbrev pub FittedBytes : Type 0
FittedBytes = (qs : List Call) (ds : List Device) → fitted_bytes (after_all qs ds) ≡ fitted_bytes ds
