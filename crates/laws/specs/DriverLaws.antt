-- Believed: document 02, request 11: laws of one driver that the controller may rely on, by the words that it takes.
-- Assumes nothing.
use Rattle.std.specs.Prelude.{ℕ, ◌+◌, ◌/◌, ◌%◌, ◌<◌, Bool, true, ◌&&◌, ◌||◌, List, [], ◌∷◌, ◌++◌, map, ◌≡◌, eqb, get_or}
use Rattle.ground.specs.Choice.{if, bit}
use Rattle.ground.specs.Lists.{Agree}
use Rattle.registers.specs.declared.Registers.{Registers}
use Rattle.device.specs.PowerUp.{power_up}
use Rattle.device.specs.Steps.{clocked}
use Rattle.device.specs.Table15.{after_words}
use Rattle.device.specs.declared.Device.{Device}
use Rattle.plans.specs.Words.{digit_write, every}
use Rattle.plans.specs.Plan.{put0, put1, put_both}

-- the registers and planes after words; the shift word and the answer mark, which the last word decides, aren't among them
abbrev pub registers_after : Device → List ℕ → Registers
registers_after d ws = (after_words d ws).registers

-- the digit of a write to 0x20+d, 0x40+d or 0x60+d
abbrev pub digit_of : ℕ → ℕ
digit_of w = w / 256 % 16

-- a digit write or the no-op
abbrev pub drawing : ℕ → Bool
drawing w = digit_write w || eqb w 0

-- a configuration write with R=1, whatever its other bits
abbrev pub clearing : ℕ → Bool
clearing w = eqb (w / 256) 4 && bit 5 (w % 256)

-- for every record, sound or not
pub record DriverLaws : Type 0 where
  -- each of the sixteen digits is one by itself, in either plane and in both
  pub digits_apart : (k v : ℕ) → k < 16 → v < 256 → (digit_of (put0 k v) ≡ k) × (digit_of (put1 k v) ≡ k) × (digit_of (put_both k v) ≡ k)
  -- "writes to two different digits give the same in either order": whatever planes they name. The same digit isn't claimed: see `orders`
  pub either_order : (d : Device) (w v : ℕ) → digit_write w ≡ true → digit_write v ≡ true → (digit_of w ≡ digit_of v → ⊥)
      → registers_after d (w ∷ v ∷ []) ≡ registers_after d (v ∷ w ∷ [])
  -- a write to both planes is a write to P0 and one to P1, in either order
  pub both_planes : (d : Device) (k v : ℕ) → k < 16 → v < 256 → registers_after d (put_both k v ∷ []) ≡ registers_after d (put0 k v ∷ put1 k v ∷ [])
  pub both_planes_turned : (d : Device) (k v : ℕ) → k < 16 → v < 256 → registers_after d (put_both k v ∷ []) ≡ registers_after d (put1 k v ∷ put0 k v ∷ [])
  -- a clear after any digit writes, with no-ops among them, is that clear alone
  pub clear_alone : (d : Device) (ws : List ℕ) (w : ℕ) → every drawing ws ≡ true → clearing w ≡ true
      → registers_after d (ws ++ w ∷ []) ≡ registers_after d (w ∷ [])
  -- in the whole record clocks of a and then of b are clocks of a + b; a call takes a sum that fits 32 bits
  pub clocks_add : (d : Device) (a b : ℕ) → clocked (clocked d a) b ≡ clocked d (a + b)

-- P0 of digit 0 after words from power-up
abbrev pub first_digit : List ℕ → ℕ
first_digit ws = get_or (registers_after power_up ws).planes.p0 0 0

-- writes to the same digit don't commute: the last one stands; and the words that the laws speak of are among theirs
abbrev pub orders : List (List ℕ × List ℕ)
orders =
    -- the no-op, and digit writes to either plane and to both; clears, whatever the other bits
    (map (λ w. if (drawing w) 1 0) (0x0000 ∷ 0x2001 ∷ 0x4F02 ∷ 0x6BFF ∷ []), 1 ∷ 1 ∷ 1 ∷ 1 ∷ [])
    ∷ (map (λ w. if (clearing w) 1 0) (0x0420 ∷ 0x04FF ∷ 0x0461 ∷ []), 1 ∷ 1 ∷ 1 ∷ [])
    ∷ (first_digit (0x2001 ∷ 0x6002 ∷ []) ∷ first_digit (0x6002 ∷ 0x2001 ∷ []) ∷ [], 2 ∷ 1 ∷ [])
    ∷ (first_digit (0x2001 ∷ 0x2002 ∷ []) ∷ first_digit (0x2002 ∷ 0x2001 ∷ []) ∷ [], 2 ∷ 1 ∷ [])
    ∷ []

-- they agree
abbrev pub OrderExamples : Type 0
OrderExamples = Agree orders
