-- Believed: numbers in decimal beside what the definition gives.
-- Assumes nothing.
use Rattle.std.specs.Prelude.{ℕ, List, [], ◌∷◌, ◌++◌}
use Rattle.ground.specs.Lists.{Agree}
use Rattle.text.specs.Text.{decimal}

-- a number, and its digits
abbrev pub decimals : List (List ℕ × List ℕ)
decimals =
    -- `0`, `9`, `10`, `507`
    (decimal 0, 0x30 ∷ [])
    ∷ (decimal 9, 0x39 ∷ [])
    ∷ (decimal 10, 0x31 ∷ 0x30 ∷ [])
    ∷ (decimal 507, 0x35 ∷ 0x30 ∷ 0x37 ∷ [])
    -- the largest of 64 bits, `18446744073709551615`
    ∷ (
      decimal 18446744073709551615,
      (0x31 ∷ 0x38 ∷ 0x34 ∷ 0x34 ∷ 0x36 ∷ 0x37 ∷ 0x34 ∷ 0x34 ∷ 0x30 ∷ 0x37 ∷ [])
          ++ (0x33 ∷ 0x37 ∷ 0x30 ∷ 0x39 ∷ 0x35 ∷ 0x35 ∷ 0x31 ∷ 0x36 ∷ 0x31 ∷ 0x35 ∷ []),
    )
    ∷ []

-- they agree in every row
abbrev pub Examples : Type 0
Examples = Agree decimals
