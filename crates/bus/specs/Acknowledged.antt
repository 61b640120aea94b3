-- Believed: document 02, request 3: "Acknowledged are exactly, of accepted bytes, a matched slave byte and those of a matched transfer in its direction; the others read 255
-- and have no effect, but an unmatched slave byte makes the bus await a start".
-- Assumes nothing.
use Rattle.std.specs.Prelude.{ℕ, ◌/◌, ◌≤◌, ◌<◌, List, [], ◌∷◌, ◌≡◌, length, get_or}
use Rattle.ground.specs.Choice.{if, odd}
use Rattle.device.specs.declared.Device.{Device}
use Rattle.bus.specs.declared.Bus.{Bus}
use Rattle.bus.specs.Straps.{strap_of}
use Rattle.bus.specs.BusCalls.{BusCall, put, get}
use Rattle.bus.specs.BusOutcome.{number, bus_after, parts_after, reply}

-- a byte that is not acknowledged reads 255 and changes no record
pub record Nobody (σ : List ℕ) (q : BusCall) (b : Bus) (ds : List Device) (left : Bus) : Type 0 where
  pub reads : reply σ q b ds ≡ 0 ∷ 255 ∷ []
  pub same_parts : parts_after σ q b ds ≡ ds
  pub bus_left : bus_after σ q b ds ≡ left

-- an accepted byte, on sixteen straps, by the bus state's numbers
pub record Byte (σ : List ℕ) (b : Bus) (ds : List Device) : Type 0 where
  -- a slave byte that is a part's: a transfer of that part is open, a read where its last bit is 1; no record changes
  pub slave_matched : (v k : ℕ) → number σ (put v) b ds ≡ 0 → b.part ≡ 0 → b.phase ≡ 1 → 1 ≤ k → k ≤ length ds → strap_of σ k ≡ v / 2
      → (reply σ (put v) b ds ≡ 1 ∷ 0 ∷ [])
      × (parts_after σ (put v) b ds ≡ ds)
      × (bus_after σ (put v) b ds ≡ record { part = k; phase = if (odd v) 2 0 })
  -- nobody's: a start is awaited
  pub slave_unmatched : (v : ℕ) → number σ (put v) b ds ≡ 0 → b.part ≡ 0 → b.phase ≡ 1 → ((k : ℕ) → 1 ≤ k → k ≤ length ds → strap_of σ k ≡ v / 2 → ⊥)
      → Nobody σ (put v) b ds (record { part = 0; phase = 2 })
  -- a byte given to an open write
  pub written : (v : ℕ) → number σ (put v) b ds ≡ 0 → 1 ≤ b.part → b.phase < 2
      → (reply σ (put v) b ds ≡ 1 ∷ 0 ∷ []) × (bus_after σ (put v) b ds ≡ record { part = b.part; phase = 1 })
  -- a byte asked for of an open read
  pub read : number σ get b ds ≡ 0 → 1 ≤ b.part → b.phase ≡ 2
      → (get_or (reply σ get b ds) 0 0 ≡ 1) × (bus_after σ get b ds ≡ b)
  -- a byte given otherwise: no transfer is open and no slave byte is awaited; or in a read
  pub given_idle : (v : ℕ) → number σ (put v) b ds ≡ 0 → b.part ≡ 0 → (b.phase ≡ 1 → ⊥) → Nobody σ (put v) b ds b
  pub given_in_read : (v : ℕ) → number σ (put v) b ds ≡ 0 → 1 ≤ b.part → b.phase ≡ 2 → Nobody σ (put v) b ds b
  -- a byte asked for otherwise: no transfer is open; or in a write
  pub asked_none : number σ get b ds ≡ 0 → b.part ≡ 0 → Nobody σ get b ds b
  pub asked_in_write : number σ get b ds ≡ 0 → 1 ≤ b.part → b.phase < 2 → Nobody σ get b ds b

-- on every bus
abbrev pub Acknowledged : Type 0
Acknowledged = (σ : List ℕ) (b : Bus) (ds : List Device) → length σ ≡ 16 → Byte σ b ds
