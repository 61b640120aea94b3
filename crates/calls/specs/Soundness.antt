-- Believed: document 01, "What the double covers": accepted calls leave sound records. Refused ones change none.
-- Assumes nothing.
use Rattle.std.specs.Prelude.{true, List, ◌≡◌}
use Rattle.device.specs.declared.Device.{Device}
use Rattle.calls.specs.Calls.{Call}
use Rattle.calls.specs.CallRefusals.{all_sound}
use Rattle.calls.specs.CallLists.{after_all}

-- after any list of calls
abbrev pub Soundness : Type 0
Soundness = (qs : List Call) (ds : List Device) → all_sound ds ≡ true → all_sound (after_all qs ds) ≡ true
