-- The bytes of one access of a list: where the list lacks it, what a call that is served has, and the examples by computation.
-- Assumes nothing.
use Rattle.ground.proofs.Names.{ℕ, ◌+◌, ◌*◌, ◌/◌, ◌<◌, ◌≤◌, div-lt_iff_lt-mul, le-div_iff_mul-le, suc-mul, add-one, arith, Bool, true, false, ◌&&◌, [], ◌∷◌, ◌≡◌, refl, ltb, lt-ltb, le-ltb, ltb-true, ltb-false, if, Agree, passed, and_right}
use Rattle.refusals.specs.Refusals.{chain_refusal}
use Rattle.refusals.proofs.RefusalLaws.{first_zero}
use Rattle.wire.specs.Line.{word_bytes}
use Rattle.redraw.specs.PlanBytes.{bytes_number, byte_rows, number_rows, BytesExamples}

-- so many words lack access a of n words, or have it
module _ (n words a : ℕ) (some : 0 < n) where
  pub lacks : words / n ≤ a → ltb words ((a + 1) * n) ≡ true
  lacks h = lt-ltb _ _ ((div-lt_iff_lt-mul some).0 (omega arith))

  pub has : a < words / n → ltb words ((a + 1) * n) ≡ false
  has h = le-ltb _ _ ((le-div_iff_mul-le some).0 (omega arith))

-- a test that refuses where it holds doesn't hold, where the number is 0
fails : (b : Bool) (k : ℕ) → 0 < k → if b k 0 ≡ 0 → b ≡ false
fails true k p e = absurd (omega (arith, p, e))
fails false k p e = refl

-- none of 1, 4 and 5: at most sixteen drivers, the access is in the list, and its bytes have room
pub bytes_served : (n words a room : ℕ) → bytes_number n words a room ≡ 0 → (n ≤ 16) × (a * n + n ≤ words) × (2 * n ≤ room)
bytes_served n words a room e =
    let four : ℕ = if (ltb words ((a + 1) * n)) 4 0 in
    let five : ℕ = if (ltb room (2 * n)) 5 0 in
    let p = first_zero (chain_refusal n) (four ∷ five ∷ []) e in
    let q = first_zero four (five ∷ []) p.1 in
    let r = first_zero five [] q.1 in
    let small = ltb-true n 17 (and_right (ltb 0 n) (ltb n 17) (passed (ltb 0 n && ltb n 17) 0 0 p.0).0) in
    let there = ltb-false words ((a + 1) * n) (fails (ltb words ((a + 1) * n)) 4 (omega arith) q.0) in
    (omega arith, omega (arith, rw (add-one, suc-mul) at there), ltb-false _ _ (fails (ltb room (2 * n)) 5 (omega arith) r.0))

bench_numbers : Agree number_rows
bench_numbers = refl

bench_bytes : Agree byte_rows
unfolding word_bytes
bench_bytes = refl

pub bytes_examples : BytesExamples
bytes_examples = record { told = bench_numbers; sent = bench_bytes }
