-- Believed: document 02, request 13: the numbers 9, 1 and 5 in this order, where each total stands, and the room after them.
-- Assumes nothing.
use Rattle.std.specs.Prelude.{ℕ, ◌+◌, ◌-◌, ◌*◌, ◌<◌, ◌≤◌, List, [], ◌∷◌, ◌≡◌, length, get_or}
use Rattle.lit_time.specs.ScriptTime.{script_time}
use Rattle.lit_time.specs.Answer.{drivers_of, lit_answer, totals_after}
use Rattle.lit_time.specs.Report.{reported}

-- the call is refused with a number: no drivers, and no total changes
pub record Refused (s t : List ℕ) (n : ℕ) : Type 0 where
  pub answer : lit_answer s (length t) ≡ record { number = n; drivers = 0 }
  pub same_totals : totals_after s t ≡ t

-- for every script s and room t
pub record Limits : Type 0 where
  -- 9, whatever else applies, and `R 9` alone
  pub too_long : (s t : List ℕ) → 65536 < length s → Refused s t 9
  pub too_long_report : (s : List ℕ) → 65536 < length s → reported s ≡ 82 ∷ 32 ∷ 57 ∷ 10 ∷ []
  -- 1, whatever the room is, and `R 1` alone
  pub no_chain : (s t : List ℕ) → length s ≤ 65536 → drivers_of s ≡ 0 → Refused s t 1
  pub long_chain : (s t : List ℕ) → length s ≤ 65536 → 16 < drivers_of s → Refused s t 1
  pub no_chain_report : (s : List ℕ) → length s ≤ 65536 → drivers_of s ≡ 0 → reported s ≡ 82 ∷ 32 ∷ 49 ∷ 10 ∷ []
  pub long_chain_report : (s : List ℕ) → length s ≤ 65536 → 16 < drivers_of s → reported s ≡ 82 ∷ 32 ∷ 49 ∷ 10 ∷ []
  -- 5: room under 8 totals a driver
  pub no_room : (s t : List ℕ) → length s ≤ 65536 → 1 ≤ drivers_of s → drivers_of s ≤ 16 → length t < 8 * drivers_of s → Refused s t 5
  pub served : (s t : List ℕ) → length s ≤ 65536 → 1 ≤ drivers_of s → drivers_of s ≤ 16 → 8 * drivers_of s ≤ length t
      → lit_answer s (length t) ≡ record { number = 0; drivers = drivers_of s }
  -- driver j's cathode d; what stands after the totals stays
  pub total : (s t : List ℕ) (j d : ℕ) → (lit_answer s (length t)).number ≡ 0 → 1 ≤ j → j ≤ drivers_of s → d < 8
      → get_or (totals_after s t) (8 * (j - 1) + d) 0 ≡ script_time s j d
  pub rest : (s t : List ℕ) (i : ℕ) → 8 * drivers_of s ≤ i → get_or (totals_after s t) i 0 ≡ get_or t i 0
  pub same_room : (s t : List ℕ) → length (totals_after s t) ≡ length t
