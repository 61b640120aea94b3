-- `blink::in_cycle` meets its contract. The invariant: what is left is below 2^k cycles, and has the same remainder. Assumes nothing.
use Rattle.ground.proofs.Names.{ℕ, suc, ◌*◌, ◌-◌, ◌%◌, ◌^◌, ◌<◌, ◌≤◌, pow-suc, mod-eq_of_lt, arith, ◌≡◌, refl, pow_mono, rules}
use Rattle.blink.proofs.in_cycle.Goals as goal

-- 2^k cycles are twice as many as 2^(k - 1), which fit 32 bits
cycles : (k : ℕ) → 0 < k → k ≤ 11 → (2 ^ k ≡ 2 ^ (k - 1) * 2) × (4000000 * 2 ^ (k - 1) % 4294967296 ≡ 4000000 * 2 ^ (k - 1))
cycles k some most =
    let e : suc (k - 1) ≡ k = omega arith in
    let h : 2 ^ (k - 1) ≤ 2 ^ 10 = pow_mono {j = 10} (omega arith) in
    (rw e at (pow-suc 2 (k - 1)), mod-eq_of_lt (omega (arith, h)))

pub loop-k-preserved-then-cycles-left : goal.loop-k-preserved-then-cycles-left
loop-k-preserved-then-cycles-left c =
    let l = c.loop-k in
    let h = cycles l.k (omega arith) l.invariant.0 in
    rw h.1 (omega arith, omega (arith, h.0), omega (arith, h.1, l.invariant.2))

pub loop-k-preserved : goal.loop-k-preserved
loop-k-preserved c =
    let l = c.loop-k in
    let h = cycles l.k (omega arith) l.invariant.0 in
    (omega arith, omega (arith, h), l.invariant.2)

pub returns : goal.returns
returns c =
    let l = c.loop-k in
    let z : l.k ≡ 0 = omega arith in
    let h : l.left < 4000000 * 2 ^ 0 = rw z at l.invariant.1 in
    omega (arith, h, l.invariant.2)

pub loop-k-init : goal.loop-k-init
loop-k-init c = (omega arith, search rules, refl)
