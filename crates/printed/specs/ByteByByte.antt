-- Believed: document 01, "Script program": each byte of a record in its place, for all bytes, and which bytes give 8.
-- Assumes nothing.
use Rattle.std.specs.Prelude.{ℕ, ◌+◌, ◌*◌, ◌/◌, ◌%◌, ◌<◌, ◌≤◌, List, [], ◌∷◌, ◌++◌, ◌≡◌, length, replicate}
use Rattle.ground.specs.Lists.{tabulate}
use Rattle.calls.specs.Calls.{scan, levels, clocks, segments, access, give, ask}
use Rattle.printed.specs.Format.{chain, call, malformed, item_at, items}

-- a record: mark 5A C3, kind byte, two-byte body length (high first), body
abbrev pub entry : ℕ → List ℕ → List ℕ
entry kind body = 0x5A ∷ 0xC3 ∷ kind ∷ length body / 256 ∷ length body % 256 ∷ body

-- no kind that there is, with a body of n bytes
pub record Unfit (kind n : ℕ) : Type 0 where
  pub no_chain : kind ≡ 1 → n ≡ 1 → ⊥
  pub no_access : kind ≡ 2 → 2 ≤ n → ⊥
  pub no_scan : kind ≡ 3 → n ≡ 5 → ⊥
  pub no_pins : kind ≡ 4 → n ≡ 2 → ⊥
  pub no_clocks : kind ≡ 5 → n ≡ 5 → ⊥
  pub no_show : kind ≡ 6 → n ≡ 2 → ⊥

-- what a record says, before any other bytes; the next one begins where it ends
pub record ByteByByte : Type 0 where
  -- 1 chain length
  pub chain_record : (n : ℕ) (rest : List ℕ) → items (entry 1 (n ∷ []) ++ rest) ≡ chain n ∷ items rest
  -- 2 access: two-byte clocks, bits; the room that is lent is enough for 4,096 clocks
  pub access_record : (high low : ℕ) (bits rest : List ℕ)
      → items (entry 2 (high ∷ low ∷ bits) ++ rest) ≡ call (access (256 * high + low) bits (replicate 512 0)) ∷ items rest
  -- 3 scan: driver, four bytes A to D
  pub scan_record : (j a b c d : ℕ) (rest : List ℕ)
      → items (entry 3 (j ∷ a ∷ b ∷ c ∷ d ∷ []) ++ rest) ≡ call (give j (scan a b c d)) ∷ items rest
  -- 4 pins: driver, levels
  pub pins_record : (j l : ℕ) (rest : List ℕ) → items (entry 4 (j ∷ l ∷ []) ++ rest) ≡ call (give j (levels l)) ∷ items rest
  -- 5 clocks: driver, four bytes, high first
  pub clocks_record : (j a b c d : ℕ) (rest : List ℕ)
      → items (entry 5 (j ∷ a ∷ b ∷ c ∷ d ∷ []) ++ rest) ≡ call (give j (clocks (16777216 * a + 65536 * b + 256 * c + d))) ∷ items rest
  -- 6 show: driver, cathode; for both displays a test table whose entry k is 257 times k
  pub show_record : (j d : ℕ) (rest : List ℕ)
      → items (entry 6 (j ∷ d ∷ []) ++ rest) ≡ call (ask j (segments d (tabulate 128 (λ k. 257 * k)) (tabulate 128 (λ k. 257 * k)))) ∷ items rest
  -- 8: wrong mark
  pub wrong_mark : (a b : ℕ) (s : List ℕ) → (a ≡ 0x5A → b ≡ 0xC3 → ⊥) → item_at (a ∷ b ∷ s) ≡ malformed
  -- unknown kind, length not fitting its kind
  pub unfit : (kind high low : ℕ) (s : List ℕ) → Unfit kind (256 * high + low) → item_at (0x5A ∷ 0xC3 ∷ kind ∷ high ∷ low ∷ s) ≡ malformed
  -- cut record: in its body, or before it
  pub cut : (kind high low : ℕ) (s : List ℕ) → length s < 256 * high + low → item_at (0x5A ∷ 0xC3 ∷ kind ∷ high ∷ low ∷ s) ≡ malformed
  pub cut_early : (s : List ℕ) → length s < 5 → item_at s ≡ malformed
