-- `shown_pins::bit_at` meets its contract. Assumes nothing.
use Rattle.ground.proofs.Names.{ℕ, ◌/◌, ◌^◌, ◌<◌, ◌≤◌, arith, div-eq_of_lt, pow_mono, false, ◌≡◌, bit, sym}
use Rattle.shown_pins.proofs.bit_at.Goals as goal

-- 32 bits have no bit 32
past-bits : (v k : ℕ) → v < 2 ^ 32 → 32 ≤ k → bit k v ≡ false
past-bits v k h g =
    let p : 2 ^ 32 ≤ 2 ^ k = pow_mono {j = k} g in
    let z : v / 2 ^ k ≡ 0 = div-eq_of_lt (omega (arith, p, h)) in
    rw z

pub returns-else-k-lt32 : goal.returns-else-k-lt32
returns-else-k-lt32 c = sym (past-bits c.args.v c.args.k (omega arith) c.if-k-lt32.false)
