-- Believed: document 01, "Bits on the wire": what an access of any number of clocks answers, and that spare bits don't matter.
-- Assumes nothing.
use Rattle.std.specs.Prelude.{ℕ, ◌-◌, ◌*◌, ◌≤◌, false, List, ◌++◌, ◌≡◌, length, take, drop, replicate}
use Rattle.wire.specs.Bits.{unpack}
use Rattle.wire.specs.Wire.{string, answer, shifted}

-- of any row of words and any sent bytes that the clocks fit
pub record AnyAccess : Type 0 where
  -- the answer bits are the first c bits of (old string, then sent bits)
  pub answer_bits : (ws sent : List ℕ) (c : ℕ) → c ≤ 8 * length sent → take c (unpack (answer ws sent c)) ≡ take c (string ws ++ unpack sent)
  -- spare bits of the last answer byte are written 0
  pub spare_answered : (ws sent : List ℕ) (c : ℕ) → c ≤ 8 * length sent → drop c (unpack (answer ws sent c)) ≡ replicate (8 * length (answer ws sent c) - c) false
  -- and of the last sent byte they are ignored, as are later bytes
  pub spare_sent : (ws sent other : List ℕ) (c : ℕ) → take c (unpack sent) ≡ take c (unpack other)
      → (answer ws sent c ≡ answer ws other c) × (shifted ws sent c ≡ shifted ws other c)
