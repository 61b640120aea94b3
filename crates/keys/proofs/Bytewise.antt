-- Numbers of 32 bits by their four bytes.
-- Assumes nothing.
use Rattle.ground.proofs.Names.{ℕ, zero, suc, ◌-◌, ◌*◌, ◌/◌, ◌%◌, ◌^◌, ◌<◌, zero-div, arith, Bool, true, false, not, ◌||◌, ◌≡◌, refl, ap, ◌∙◌, eqb, bit_and, bit_or, and_shr, and_mod, or_shr, or_mod, eqb-true, eqb-false, eq-eqb, ne_eqb}
use Rattle.keys.specs.PackedKeys.{joined, byte_at}

-- what holds at each of the four places
pub at_places : (P : ℕ → Type 0) → P 0 → P 1 → P 2 → P 3 → (j : ℕ) → j < 4 → P j
at_places P a b c d zero h = a
at_places P a b c d (suc zero) h = b
at_places P a b c d (suc (suc zero)) h = c
at_places P a b c d (suc (suc (suc zero))) h = d
at_places P a b c d (suc (suc (suc (suc j)))) h = absurd (omega arith)

-- an operation that goes bit by bit goes byte by byte
module _ (f : ℕ → ℕ → ℕ)
    (shr : (a b k : ℕ) → f a b / 2 ^ k ≡ f (a / 2 ^ k) (b / 2 ^ k))
    (low : (a b k : ℕ) → f a b % 2 ^ k ≡ f (a % 2 ^ k) (b % 2 ^ k)) where
  bytewise : (j a b : ℕ) → byte_at j (f a b) ≡ f (byte_at j a) (byte_at j b)
  unfolding byte_at
  bytewise j a b = ap (λ (x : ℕ). x % 256) (shr a b (8 * j)) ∙ low (a / 2 ^ (8 * j)) (b / 2 ^ (8 * j)) 8

pub and_byte : (j a b : ℕ) → byte_at j (bit_and a b) ≡ bit_and (byte_at j a) (byte_at j b)
and_byte = bytewise bit_and and_shr and_mod

pub or_byte : (j a b : ℕ) → byte_at j (bit_or a b) ≡ bit_or (byte_at j a) (byte_at j b)
or_byte = bytewise bit_or or_shr or_mod

-- the complement within 32 bits is that of each byte
pub not_byte : (x : ℕ) → x < 4294967296 → (j : ℕ) → j < 4 → byte_at j (4294967295 - x) ≡ 255 - byte_at j x
unfolding byte_at
not_byte x h =
    at_places (λ j. byte_at j (4294967295 - x) ≡ 255 - byte_at j x) (omega arith) (omega arith) (omega arith) (omega arith)

pub byte_small : (j x : ℕ) → byte_at j x < 256
unfolding byte_at
byte_small j x = omega arith

-- bytes that are joined, by their places
pub joined_byte : (f : ℕ → ℕ) → ((j : ℕ) → j < 4 → f j < 256) → (j : ℕ) → j < 4 → byte_at j (joined (f 0) (f 1) (f 2) (f 3)) ≡ f j
unfolding byte_at
joined_byte f w =
    let a = w 0 (omega arith) in
    let b = w 1 (omega arith) in
    let c = w 2 (omega arith) in
    let d = w 3 (omega arith) in
    at_places (λ j. byte_at j (joined (f 0) (f 1) (f 2) (f 3)) ≡ f j) (omega arith) (omega arith) (omega arith) (omega arith)

nonzero : (j x : ℕ) → eqb (byte_at j x) 0 ≡ false → eqb x 0 ≡ false
unfolding byte_at
nonzero j x e = ne_eqb x 0 (λ z. eqb-false (byte_at j x) 0 e (rw (z, zero-div)))

-- a number is not 0 where some byte of it is not 0
pub some_byte : (x : ℕ) → x < 4294967296
    → not (eqb x 0) ≡ (not (eqb (byte_at 0 x) 0) || not (eqb (byte_at 1 x) 0) || not (eqb (byte_at 2 x) 0) || not (eqb (byte_at 3 x) 0))
unfolding byte_at
some_byte x h = go _ _ _ _ refl refl refl refl
  where
    go : (p q r s : Bool) → eqb (byte_at 0 x) 0 ≡ p → eqb (byte_at 1 x) 0 ≡ q → eqb (byte_at 2 x) 0 ≡ r → eqb (byte_at 3 x) 0 ≡ s
        → not (eqb x 0) ≡ (not p || not q || not r || not s)
    go true true true true d e f g =
        let below3 : x < 16777216 = omega (arith, eqb-true (byte_at 3 x) 0 g) in
        let below2 : x < 65536 = omega (arith, eqb-true (byte_at 2 x) 0 f) in
        let below1 : x < 256 = omega (arith, eqb-true (byte_at 1 x) 0 e) in
        rw (eq-eqb x 0 (omega (arith, eqb-true (byte_at 0 x) 0 d)))
    go true true true false d e f g = rw (nonzero 3 x g)
    go true true false s d e f g = rw (nonzero 2 x f)
    go true false r s d e f g = rw (nonzero 1 x e)
    go false q r s d e f g = rw (nonzero 0 x d)
