-- Believed: document 02, request 6: a list of words, one to each driver per access, driver 1's first. Places count from 0.
-- Assumes nothing.
use Rattle.std.specs.Prelude.{ℕ, ◌+◌, ◌*◌, ◌/◌, ◌%◌, ◌<◌, true, List, ◌≡◌, length, get_or, take, drop}
use Rattle.ground.specs.Lists.{tabulate}
use Rattle.digits.specs.declared.Planes.{Planes}
use Rattle.device.specs.PowerUp.{power_up}
use Rattle.device.specs.Sound.{sound_of}
use Rattle.device.specs.declared.Device.{Device}
use Rattle.plans.specs.Words.{Accepted, Sized}

-- the record at place i of a chain
abbrev pub record_at : List Device → ℕ → Device
record_at ds i = get_or ds i power_up

-- "wanted contents for every driver (P0 then P1, driver 1 first)": 32 bytes each, those at place i
abbrev pub wanted_at : List ℕ → ℕ → Planes
wanted_at wanted i = record { p0 = take 16 (drop (32 * i) wanted); p1 = take 16 (drop (32 * i + 16) wanted) }

-- "a list of words, one to each driver per access, driver 1's first": those to place i of n, access by access
abbrev pub words_at : ℕ → List ℕ → ℕ → List ℕ
words_at n list i = tabulate (length list / n) (λ a. get_or list (a * n + i) 0)

-- "accepts a list exactly if it is whole accesses", and each driver accepts its own words
pub record AcceptedList (ds : List Device) (wanted list : List ℕ) : Type 0 where
  pub whole : length list % length ds ≡ 0
  pub each : (i : ℕ) → i < length ds → Accepted (record_at ds i) (wanted_at wanted i) (words_at (length ds) list i)

-- "Given a sound chain and wanted contents for every driver"; `planes` and `bytes` are what the types of a record and of a byte give
pub record Given (ds : List Device) (wanted : List ℕ) : Type 0 where
  pub some : 0 < length ds
  pub sound : (i : ℕ) → i < length ds → sound_of (record_at ds i) ≡ true
  pub sized : length wanted ≡ 32 * length ds
  pub planes : (i : ℕ) → i < length ds → Sized (record_at ds i).registers.planes
  pub bytes : (k : ℕ) → get_or wanted k 0 < 256
