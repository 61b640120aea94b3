-- A refusal's line.
-- Assumes nothing.
use Rattle.ground.proofs.Names.{ℕ, ◌≤◌, arith, List, [], ◌∷◌, ◌≡◌, refl, length, replicate, take, length-append, take_at}
use Rattle.text.specs.Text.{decimal, newline, refusal_line}
use Rattle.text.specs.Written.{Written, room_after, place_after}
use Rattle.text.proofs.Room.{written, written_length, both_written_lem, whole_written}
use Rattle.text.proofs.Digits.{decimal_short}

-- it is at most 23 bytes long, and 4 where the number is one digit
pub refusal_short : (n : ℕ) → length (refusal_line n) ≤ 23
refusal_short n = rw length-append (omega (arith, decimal_short n))

-- its three parts, put one after another into 23 bytes
pub line_made : (n : ℕ) {o₁ o₂ o₃ : List ℕ} {a₁ a₂ a₃ : ℕ}
    → (a₁ ≡ place_after (82 ∷ 32 ∷ []) 0 (replicate 23 0)) × (o₁ ≡ room_after (82 ∷ 32 ∷ []) 0 (replicate 23 0))
    → (a₂ ≡ place_after (decimal n) a₁ o₁) × (o₂ ≡ room_after (decimal n) a₁ o₁)
    → (a₃ ≡ place_after newline a₂ o₂) × (o₃ ≡ room_after newline a₂ o₂)
    → (take a₃ o₃ ≡ refusal_line n) × (a₃ ≤ length o₃)
line_made n {a₃ = a₃} put_first put_second put_end =
    let o₀ : List ℕ = replicate 23 0 in
    let l : length o₀ ≡ 23 = refl in
    let p = written put_first (omega (arith, l)) in
    let q = written put_second (omega (arith, l, p.place, written_length _ _ _ _ _ p, decimal_short n)) in
    let r = written put_end (omega (arith, l, p.place, q.place, written_length _ _ _ _ _ p, written_length _ _ _ _ _ q, decimal_short n)) in
    let w : Written (refusal_line n) 0 o₀ _ a₃ = both_written_lem _ _ _ _ _ _ _ _ (both_written_lem _ _ _ _ _ _ _ _ p q) r in
    let h : a₃ ≤ 23 = omega (arith, w.place, refusal_short n) in
    let e = whole_written _ _ _ _ w (omega (arith, l)) in
    (rw e (take_at (refusal_line n) _ a₃ (omega (arith, w.place))), omega (arith, l, written_length _ _ _ _ _ w))
