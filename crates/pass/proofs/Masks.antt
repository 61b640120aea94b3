-- A byte and a hexadecimal digit of a number by a mask.
-- Assumes nothing.
use Rattle.ground.proofs.Names.{ℕ, ◌%◌, ◌<◌, arith, mod-lt, ◌≡◌, bit_and, and_mask}

pub byte_mask : (n : ℕ) → bit_and n 255 ≡ n % 256
byte_mask n = and_mask n 8

pub digit_mask : (n : ℕ) → bit_and n 15 ≡ n % 16
digit_mask n = and_mask n 4

-- a digit fits a byte
pub digit_small : (n : ℕ) → bit_and n 15 < 256
digit_small n = rw (digit_mask n) (omega (arith, mod-lt n {m = 16} (omega arith)))
