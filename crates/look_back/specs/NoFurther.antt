-- Believed: document 02, request 9: the stopping place decides the answer, with nothing that stands before it.
-- Assumes nothing.
use Rattle.std.specs.Prelude.{ℕ, ◌-◌, ◌≤◌, ◌<◌, true, false, List, ◌≡◌, length, get_or, drop}
use Rattle.words.specs.declared.Plane.{Plane}
use Rattle.device.specs.declared.Device.{Device}
use Rattle.plans.specs.Words.{Sized}
use Rattle.look_back.specs.LookBack.{byte_of, byte_after}
use Rattle.look_back.specs.Stops.{stops, stopping_place}

-- for all words; planes are sixteen digits, as their type has it
pub record NoFurther : Type 0 where
  -- the word at the stopping place stops, and none after it does
  pub stops_there : (p : Plane) (i : ℕ) (ws : List ℕ) → 0 < stopping_place p i ws → stops p i (get_or ws (stopping_place p i ws - 1) 0) ≡ true
  pub none_later : (p : Plane) (i : ℕ) (ws : List ℕ) (k : ℕ) → stopping_place p i ws ≤ k → k < length ws → stops p i (get_or ws k 0) ≡ false
  -- "Lists that agree from the stopping place on answer alike": whatever stands before it, and whatever the records hold
  pub alike : (d e : Device) (p : Plane) (i : ℕ) (xs ys : List ℕ) (j : ℕ)
      → Sized d.registers.planes → Sized e.registers.planes → i < 16
      → 0 < stopping_place p i xs
      → drop (stopping_place p i xs - 1) xs ≡ drop j ys
      → byte_after d p i xs ≡ byte_after e p i ys
  -- "falling back on the starting record", where no word stops
  pub falls_back : (d : Device) (p : Plane) (i : ℕ) (ws : List ℕ)
      → Sized d.registers.planes → i < 16
      → stopping_place p i ws ≡ 0
      → byte_after d p i ws ≡ byte_of d p i
