-- Numbers, answers and letters of a line.
-- Assumes nothing.
use Rattle.ground.proofs.Names.{ℕ, ◌+◌, ◌*◌, ◌/◌, ◌≤◌, ◌<◌, arith, Bool, true, false, ltb, if, dec_lt, lt-ltb, le-ltb, List, [], ◌∷◌, ◌++◌, ◌≡◌, refl, suc, length, get_or, length-append}
use Rattle.text.specs.Text.{each, digit, decimal as digits_of, newline, refusal_line as refused_line}
use Rattle.text.proofs.Digits.{more_digits, one_digit, one_place}
use Rattle.text.proofs.Texts.{length_each}
use Rattle.printed.specs.Lines.{decimal, refusal_line, hex_byte, answer_line, letter, pin_text}

-- a number of at most two digits, and the line's end
pub two_digits : (n : ℕ) → n < 100 → digits_of n ++ newline ≡ decimal n
two_digits n h = go (dec_lt n 10)
  where
    go : Dec (n < 10) → digits_of n ++ newline ≡ decimal n
    go (yes l) = rw (one_place n l, lt-ltb n 10 l)
    go (no l) = rw (more_digits 19 n (omega arith), one_digit 18 (n / 10) (omega arith), le-ltb n 10 (omega arith))

-- a refusal's line
pub refused_by : (n : ℕ) → n < 100 → refused_line n ≡ refusal_line n
refused_by n h = rw (two_digits n h)

-- a number and the line's end are at most three bytes long
pub decimal_short : (n : ℕ) → length (decimal n) ≤ 3
decimal_short n = go (ltb n 10)
  where
    go : (b : Bool) → length (if b (digit n ∷ 10 ∷ []) (digit (n / 10) ∷ digit n ∷ 10 ∷ [])) ≤ 3
    go true = omega arith
    go false = omega arith

-- an answer of no bytes, and of some
pub answer_none : (bs : List ℕ) → length bs ≡ 0 → answer_line bs ≡ 65 ∷ 10 ∷ []
answer_none [] h = refl
answer_none (b ∷ bs) h = absurd (omega arith)

pub answer_some : (bs : List ℕ) → (length bs ≡ 0 → ⊥) → answer_line bs ≡ 65 ∷ 32 ∷ each hex_byte bs ++ 10 ∷ []
answer_some [] h = absurd (h refl)
answer_some (b ∷ bs) h = refl

pub answer_length : (bs : List ℕ) → length (answer_line bs) ≤ 3 + 2 * length bs
answer_length [] = omega arith
answer_length (b ∷ bs) = simp length-append (omega (arith, length_each hex_byte 2 (λ x. refl) (b ∷ bs)))

-- pins by their letters
pub letters : (pins ls : List ℕ) → length ls ≡ length pins → ((i : ℕ) → i < length pins → get_or ls i 0 ≡ letter (get_or pins i 0)) → ls ≡ each pin_text pins
unfolding each
letters [] [] l h = refl
letters [] (x ∷ xs) l h = absurd (omega arith)
letters (p ∷ pins) [] l h = absurd (omega arith)
letters (p ∷ pins) (x ∷ xs) l h =
    let first = h 0 (omega arith) in
    let rest = letters pins xs (omega arith) (λ i b. h (suc i) (omega arith)) in
    cc (first, rest)
