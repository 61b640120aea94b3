-- Believed: document 02, request 3: a whole write and a whole read of one part, from any sound bus state.
-- Assumes nothing.
use Rattle.std.specs.Prelude.{ℕ, zero, suc, ◌+◌, ◌*◌, ◌%◌, ◌≤◌, min, true, List, [], ◌∷◌, ◌++◌, map, ◌≡◌, length, take, replicate}
use Rattle.words.specs.Addresses.{written_at, read_at}
use Rattle.registers.specs.Registers.{written, data_of, after_read}
use Rattle.registers.specs.declared.Registers.{Registers}
use Rattle.device.specs.Record.{with_registers, with_command}
use Rattle.device.specs.Families.{families}
use Rattle.device.specs.declared.Device.{Device}
use Rattle.calls.specs.CallRefusals.{families_below, all_sound}
use Rattle.calls.specs.Served.{record_of, with_record}
use Rattle.bus.specs.declared.Bus.{Bus}
use Rattle.bus.specs.Straps.{strap_of, distinct, seven_bits}
use Rattle.bus.specs.States.{sound_bus}
use Rattle.bus.specs.BusCalls.{BusCall, start, put, get, stop}
use Rattle.bus.specs.BusLists.{bus_all, parts_all, numbers, replies}

-- data bytes written from address a on: byte j at a + j, and at 127 from there on
abbrev pub stored : Registers → ℕ → List ℕ → Registers
stored x a [] = x
stored x a (v ∷ vs) = stored (written x (written_at (min a 127)) v) (a + 1) vs

-- what m bytes read from address a on leave
abbrev pub read_left : Registers → ℕ → ℕ → Registers
read_left x a zero = x
read_left x a (suc m) = read_left (after_read x (read_at (min a 127))) (a + 1) m

-- and what they give
abbrev pub read_data : Registers → ℕ → ℕ → List ℕ
read_data x a zero = []
read_data x a (suc m) = data_of x (read_at (min a 127)) ∷ read_data (after_read x (read_at (min a 127))) (a + 1) m

-- a whole write of part k: its slave byte, low; the command byte and data
abbrev pub write_calls : List ℕ → ℕ → ℕ → List ℕ → List BusCall
write_calls σ k a vs = start ∷ put (2 * strap_of σ k) ∷ put a ∷ map put vs ++ stop ∷ []

-- a whole read: its slave byte, high; bytes asked for
abbrev pub read_calls : List ℕ → ℕ → ℕ → List BusCall
read_calls σ k m = start ∷ put (2 * strap_of σ k + 1) ∷ replicate m get ++ stop ∷ []

-- calls that are all accepted: what they leave, and give back
pub record Ran (σ : List ℕ) (qs : List BusCall) (b : Bus) (ds : List Device) (b' : Bus) (ds' : List Device) (rs : List (List ℕ)) : Type 0 where
  pub all_served : numbers σ qs b ds ≡ map (λ (q : BusCall). 0) qs
  pub bus_left : bus_all σ qs b ds ≡ b'
  pub parts_left : parts_all σ qs b ds ≡ ds'
  pub given_back : replies σ qs b ds ≡ rs

-- sixteen straps, of which those that count are distinct and seven bits; sound records of the old family and a sound bus state; a part that is there.
-- Every byte is acknowledged, no other record changes, and the bus is idle again
pub record Transaction (σ : List ℕ) (b : Bus) (ds : List Device) (k : ℕ) : Type 0 where
  pub write : (a : ℕ) (vs : List ℕ) →
      Ran σ (write_calls σ k a vs) b ds
      (record { part = 0; phase = 0 })
      (with_record ds k
      (with_command (with_registers (record_of ds k) (stored (record_of ds k).registers (a % 128) vs)) (min (a % 128 + length vs) 127)))
      ([] ∷ (1 ∷ 0 ∷ []) ∷ (1 ∷ 0 ∷ []) ∷ map (λ (v : ℕ). 1 ∷ 0 ∷ []) vs ++ [] ∷ [])
  pub read : (m : ℕ) →
      Ran σ (read_calls σ k m) b ds
      (record { part = 0; phase = 0 })
      (with_record ds k
      (with_command (with_registers (record_of ds k) (read_left (record_of ds k).registers (record_of ds k).command m)) (min ((record_of ds k).command + m) 127)))
      ([] ∷ (1 ∷ 0 ∷ []) ∷ map (λ (v : ℕ). 1 ∷ v ∷ []) (read_data (record_of ds k).registers (record_of ds k).command m) ++ [] ∷ [])

-- of every part on every bus
abbrev pub Transactions : Type 0
Transactions =
    (σ : List ℕ) (b : Bus) (ds : List Device)
    → length σ ≡ 16
    → length ds ≤ 16
    → distinct (take (length ds) σ) ≡ true
    → seven_bits (take (length ds) σ) ≡ true
    → families_below 1 (families ds) ≡ true
    → all_sound ds ≡ true
    → sound_bus (length ds) b ≡ true
    → (k : ℕ)
    → 1 ≤ k
    → k ≤ length ds
    → Transaction σ b ds k
