-- Believed: document 02, request 1, "nothing else touches it", of the answer marks and the shift words on the two-wire bus, which has no access; document 01,
-- "Segments and brightness": "no call changes it", of the fitted bytes. Over any list of this bus's calls.
-- Assumes nothing.
use Rattle.std.specs.Prelude.{ℕ, List, ◌≡◌}
use Rattle.device.specs.declared.Device.{Device}
use Rattle.calls.specs.Served.{shift_words}
use Rattle.calls.specs.AnswerMark.{marks}
use Rattle.calls.specs.FittedBytes.{fitted_bytes}
use Rattle.bus.specs.declared.Bus.{Bus}
use Rattle.bus.specs.BusCalls.{BusCall}
use Rattle.bus.specs.BusLists.{parts_all}

-- accepted or refused, whatever the straps, the bus state and the records
pub record BusKept : Type 0 where
  pub kept_marks : (σ : List ℕ) (qs : List BusCall) (b : Bus) (ds : List Device) → marks (parts_all σ qs b ds) ≡ marks ds
  pub kept_words : (σ : List ℕ) (qs : List BusCall) (b : Bus) (ds : List Device) → shift_words (parts_all σ qs b ds) ≡ shift_words ds
  pub kept_fitted : (σ : List ℕ) (qs : List BusCall) (b : Bus) (ds : List Device) → fitted_bytes (parts_all σ qs b ds) ≡ fitted_bytes ds
