-- An access of any number of clocks.
-- Assumes nothing.
use Rattle.ground.proofs.Names.{ℕ, zero, suc, ◌-◌, ◌*◌, ◌≤◌, arith, le_of_suc-le-suc, not-suc-le-zero, Bool, false, List, ◌∷◌, ◌++◌, append_assoc, ◌≡◌, refl, ap, length, take, drop, replicate, length-append, length-take, take-append-drop, take-append-le, take_at, drop_at}
use Rattle.refusals.specs.Refusals.{bytes_for}
use Rattle.wire.specs.Bits.{unpack}
use Rattle.wire.specs.Wire.{string, wire, answer, shifted}
use Rattle.wire.specs.AnyAccess.{AnyAccess}
use Rattle.wire.proofs.BitLaws.{length_unpack, unpack_pack}
use Rattle.wire.proofs.LineLaws.{length_string, length_answer}
use Rattle.wire.proofs.WholeLaws.{front}

take_replicate : {A : Type 0} (k n : ℕ) (x : A) → k ≤ n → take k (replicate n x) ≡ replicate k x
take_replicate zero n x h = refl
take_replicate (suc k) zero x h = absurd (not-suc-le-zero h)
take_replicate {A} (suc k) (suc n) x h = ap (λ (l : List A). x ∷ l) (take_replicate k n x (le_of_suc-le-suc h))

-- the first c elements of a list and more need no more than c of these
take_inner : (c : ℕ) (xs ys : List Bool) → c ≤ length ys → take c (xs ++ take c ys) ≡ take c (xs ++ ys)
take_inner c xs ys h =
    let l : c ≤ length (xs ++ take c ys) = simp (length-append, length-take) (omega arith) in
    rw (← take-append-le c (xs ++ take c ys) (drop c ys) l, append_assoc, take-append-drop)

module _ (ws sent : List ℕ) (c : ℕ) (fits : c ≤ 8 * length sent) where
  -- c bits of the wire
  length_wire : length (take c (wire ws sent c)) ≡ c
  unfolding wire
  length_wire = simp (length-take, length-append, length_string, length_unpack) (omega arith)

  -- the answer's bits, and zeros up to a whole byte
  answer_whole : unpack (answer ws sent c) ≡ take c (wire ws sent c) ++ replicate (8 * length (answer ws sent c) - c) false
  unfolding answer
  answer_whole =
      let s = take c (wire ws sent c) in
      let b : 8 * bytes_for c - c ≤ 8 = omega arith in
      rw (length_answer ws sent c fits, unpack_pack s, length_wire, front (8 * bytes_for c) s (replicate 8 false) (omega (arith, length_wire)), length_wire, take_replicate (8 * bytes_for c - c) 8 false b)

  answer_bits : take c (unpack (answer ws sent c)) ≡ take c (string ws ++ unpack sent)
  unfolding wire
  answer_bits = rw (answer_whole, take_at (take c (wire ws sent c)) _ c length_wire) (take_inner c (string ws) (unpack sent) (rw length_unpack fits))

  spare_answered : drop c (unpack (answer ws sent c)) ≡ replicate (8 * length (answer ws sent c) - c) false
  spare_answered = rw answer_whole (drop_at (take c (wire ws sent c)) _ c length_wire)

spare_sent : (ws sent other : List ℕ) (c : ℕ) → take c (unpack sent) ≡ take c (unpack other)
    → (answer ws sent c ≡ answer ws other c) × (shifted ws sent c ≡ shifted ws other c)
unfolding answer shifted wire
spare_sent ws sent other c e = (rw e, rw e)

pub any_access : AnyAccess
any_access = record { answer_bits = answer_bits; spare_answered = spare_answered; spare_sent = spare_sent }
