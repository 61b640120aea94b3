-- Believed: document 02, request 11: the laws of one driver, of accesses to a chain. Drivers are counted from 1.
-- Assumes nothing.
use Rattle.std.specs.Prelude.{ℕ, ◌*◌, ◌<◌, ◌≤◌, Bool, true, ◌&&◌, List, [], ◌∷◌, ◌++◌, map, ◌≡◌, length}
use Rattle.registers.specs.declared.Registers.{Registers}
use Rattle.device.specs.Families.{families}
use Rattle.device.specs.declared.Device.{Device}
use Rattle.plans.specs.Words.{digit_write, every}
use Rattle.plans.specs.Plan.{put0, put1, put_both}
use Rattle.calls.specs.Calls.{Call, access}
use Rattle.calls.specs.CallRefusals.{all_sound}
use Rattle.calls.specs.Served.{record_of}
use Rattle.calls.specs.CallLists.{after_all}
use Rattle.calls.specs.Isolation.{accepted, own_word}
use Rattle.laws.specs.DriverLaws.{digit_of, drawing, clearing}

-- accesses of 16n clocks, one after the other, each with its bytes and the same room for the answer
abbrev pub accesses_for : ℕ → List ℕ → List (List ℕ) → List Call
accesses_for n room sents = map (λ sent. access (16 * n) sent room) sents

-- all are accepted
unfoldable pub all_accepted : ℕ → List ℕ → List ℕ → List (List ℕ) → Bool
all_accepted n fs room [] = true
all_accepted n fs room (sent ∷ sents) = accepted n fs (access (16 * n) sent room) && all_accepted n fs room sents

-- the registers and planes of driver i after them
abbrev pub registers_at : List Device → List ℕ → List (List ℕ) → ℕ → Registers
registers_at ds room sents i = (record_of (after_all (accesses_for (length ds) room sents) ds) i).registers

-- two words of which none is more than that, and that don't write the same digit
pub record Apart (w v : ℕ) : Type 0 where
  pub first : drawing w ≡ true
  pub second : drawing v ≡ true
  pub digits : digit_write w ≡ true → digit_write v ≡ true → digit_of w ≡ digit_of v → ⊥

-- for every sound chain and every driver of the old family in it
pub record ChainLaws : Type 0 where
  -- they speak of accesses to a mixed chain, of no-ops, and of digits d and da
  pub accepted_ones : all_accepted 2 (0 ∷ 1 ∷ []) (0 ∷ 0 ∷ 0 ∷ 0 ∷ []) ((0x20 ∷ 0x01 ∷ 0x00 ∷ 0x00 ∷ []) ∷ (0x28 ∷ 0x02 ∷ 0x20 ∷ 0x03 ∷ []) ∷ []) ≡ true
  pub apart_ones : Apart 0x2001 0x2802 × Apart 0x0000 0x2003
  -- two accesses that send no driver the same digit, in either order
  pub either_order : (ds : List Device) (room a b : List ℕ) → all_sound ds ≡ true → all_accepted (length ds) (families ds) room (a ∷ b ∷ []) ≡ true
      → (i : ℕ) → 1 ≤ i → i ≤ length ds → (record_of ds i).family ≡ 0 → Apart (own_word (length ds) i a) (own_word (length ds) i b)
      → registers_at ds room (a ∷ b ∷ []) i ≡ registers_at ds room (b ∷ a ∷ []) i
  -- an access that writes both planes of a digit, and two that write P0 and then P1
  pub both_planes : (ds : List Device) (room both first second : List ℕ) → all_sound ds ≡ true → all_accepted (length ds) (families ds) room (both ∷ first ∷ second ∷ []) ≡ true
      → (i : ℕ) → 1 ≤ i → i ≤ length ds → (record_of ds i).family ≡ 0 → (k v : ℕ) → k < 16 → v < 256
      → own_word (length ds) i both ≡ put_both k v → own_word (length ds) i first ≡ put0 k v → own_word (length ds) i second ≡ put1 k v
      → registers_at ds room (both ∷ []) i ≡ registers_at ds room (first ∷ second ∷ []) i
  -- an access that clears, after any accesses of digit writes, and that access alone
  pub clear_alone : (ds : List Device) (room : List ℕ) (sents : List (List ℕ)) (clear : List ℕ) → all_sound ds ≡ true
      → all_accepted (length ds) (families ds) room (clear ∷ sents) ≡ true
      → (i : ℕ) → 1 ≤ i → i ≤ length ds → (record_of ds i).family ≡ 0 → every drawing (map (own_word (length ds) i) sents) ≡ true → clearing (own_word (length ds) i clear) ≡ true
      → registers_at ds room (sents ++ clear ∷ []) i ≡ registers_at ds room (clear ∷ []) i
