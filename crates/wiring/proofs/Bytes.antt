-- The bytes of numbers: of packed bytes, of a byte repeated, of `and`, `or`, sums without carry and a shift.
-- Assumes nothing.
use Rattle.ground.proofs.Names.{ℕ, zero, suc, ◌+◌, ◌*◌, ◌/◌, ◌%◌, ◌^◌, ◌<◌, mul-suc, mul_comm, div-one, div-div-eq-div-mul, not-suc-le-zero, arith, Bool, ◌≡◌, refl, bit_and, bit_or, and_shr, and_mod, or_shr, or_mod, eqb, pow-add, eqb-true, all, all_at}
use Rattle.wiring.specs.PackedRows.{byte_of, packed}

-- byte 0, and byte i + 1 as byte i of what stands above it
pub byte_first : (w : ℕ) → byte_of w 0 ≡ w % 256
byte_first w = rw div-one

pub byte_next : (w i : ℕ) → byte_of w (suc i) ≡ byte_of (w / 256) i
byte_next w i = rw (mul-suc, pow-add, mul_comm (2 ^ (8 * i)) (2 ^ 8), div-div-eq-div-mul)

-- byte i of packed bytes is the one packed there
pub byte_packed : (n i : ℕ) (f : ℕ → ℕ) → ((j : ℕ) → f j < 256) → i < n → byte_of (packed n f) i ≡ f i
byte_packed zero i f small h = absurd (not-suc-le-zero h)
byte_packed (suc n) zero f small h = rw byte_first (omega (arith, small 0))
byte_packed (suc n) (suc i) f small h =
    let e : packed (suc n) f / 256 ≡ packed n (λ j. f (suc j)) = omega (arith, small 0) in
    rw (byte_next, e) (byte_packed n i (λ j. f (suc j)) (λ j. small (suc j)) (omega arith))

pub byte_and : (i a b : ℕ) → byte_of (bit_and a b) i ≡ bit_and (byte_of a i) (byte_of b i)
byte_and i a b = rw (and_shr, and_mod _ _ 8)

pub byte_or : (i a b : ℕ) → byte_of (bit_or a b) i ≡ bit_or (byte_of a i) (byte_of b i)
byte_or i a b = rw (or_shr, or_mod _ _ 8)

-- a sum of which no byte carries into the next
pub byte_add : (n i a b : ℕ) → i < n → ((j : ℕ) → j < n → byte_of a j + byte_of b j < 256) → byte_of (a + b) i ≡ byte_of a i + byte_of b i
byte_add zero i a b h small = absurd (not-suc-le-zero h)
byte_add (suc n) zero a b h small = simp byte_first (omega (arith, simp byte_first at (small 0 (omega arith))))
byte_add (suc n) (suc i) a b h small =
    let e : (a + b) / 256 ≡ a / 256 + b / 256 = omega (arith, simp byte_first at (small 0 (omega arith))) in
    simp (byte_next, e) (byte_add n i (a / 256) (b / 256) (omega arith) (λ j l. simp byte_next at (small (suc j) (omega arith))))

-- the highest bit of byte i, shifted to its lowest
pub byte_shifted : (i w : ℕ) → byte_of (w / 2 ^ 7) i % 2 ≡ byte_of w i / 128
byte_shifted zero w = simp byte_first (omega arith)
byte_shifted (suc i) w =
    let e : w / 2 ^ 7 / 256 ≡ w / 256 / 2 ^ 7 = omega arith in
    simp (byte_next, e) (byte_shifted i (w / 256))

-- a byte eight times
abbrev alike : ℕ → ℕ → Bool
alike v i = eqb (byte_of (v * 0x0101010101010101) i) v

pub byte_repeated : (v i : ℕ) → v < 256 → i < 8 → byte_of (v * 0x0101010101010101) i ≡ v
byte_repeated v i hv hi = eqb-true _ _ (all_at (alike v) 8 (all_at (λ u. all (alike u) 8) 256 refl v hv) i hi)
