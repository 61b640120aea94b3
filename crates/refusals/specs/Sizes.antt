-- Believed: document 01, "Numbers a call may give", rows 3, 4 and 5, by bits: c clocks need c/8 bytes, rounded up.
-- Assumes nothing.
use Rattle.std.specs.Prelude.{ℕ, ◌*◌, ◌<◌, ◌≤◌, ◌≡◌}
use Rattle.refusals.specs.Refusals.{size_refusal}

-- the lowest that applies, for every access
pub record Sizes : Type 0 where
  -- 3: more than 4,096 clocks
  pub clocks : (c sent room : ℕ) → 4096 < c → size_refusal c sent room ≡ 3
  -- 4: sent bytes fewer than the clocks need
  pub sent : (c sent room : ℕ) → c ≤ 4096 → 8 * sent < c → size_refusal c sent room ≡ 4
  -- 5: room for answer bytes fewer than the clocks need
  pub room : (c sent room : ℕ) → c ≤ 4096 → c ≤ 8 * sent → 8 * room < c → size_refusal c sent room ≡ 5
  -- else none of the three
  pub served : (c sent room : ℕ) → c ≤ 4096 → c ≤ 8 * sent → c ≤ 8 * room → size_refusal c sent room ≡ 0
