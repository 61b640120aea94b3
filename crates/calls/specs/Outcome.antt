-- Believed: document 01, "Numbers a call may give": one call on a chain, its number, the records after it, and what it gives back.
-- Assumes nothing.
use Rattle.std.specs.Prelude.{ℕ, List, eqb, length}
use Rattle.ground.specs.Choice.{if}
use Rattle.device.specs.Families.{families}
use Rattle.device.specs.declared.Device.{Device}
use Rattle.calls.specs.Calls.{Call}
use Rattle.calls.specs.CallRefusals.{all_sound, shortest_refusal, refusal_by}
use Rattle.calls.specs.Served.{served, given_back, refused_back}

-- the number of a call on a chain: 0 where it is served
unfoldable pub number : Call → List Device → ℕ
number q ds = refusal_by (length ds) (families ds) (all_sound ds) (shortest_refusal ds q) q

-- the chain's records after it; apart from 0 nothing changes
unfoldable pub after : Call → List Device → List Device
after q ds = if (eqb (number q ds) 0) (served q ds) ds

-- what it gives back beside its number
unfoldable pub reply : Call → List Device → List ℕ
reply q ds = if (eqb (number q ds) 0) (given_back q ds) (refused_back q)

-- the one result of a call and the one state that it leaves
pub record Outcome : Type 0 where
  pub number : ℕ
  pub records : List Device
  pub back : List ℕ

-- of a call on a chain
abbrev pub outcome : Call → List Device → Outcome
outcome q ds = record { number = number q ds; records = after q ds; back = reply q ds }
