-- A number's digits, from the last on.
-- Assumes nothing.
use Rattle.ground.proofs.Names.{ℕ, zero, suc, ◌-◌, ◌/◌, ◌^◌, ◌<◌, ◌≤◌, arith, List, [], ◌∷◌, ◌++◌, ◌≡◌, sym, ◌∙◌, length, set, drop, length-append, Bool, true, false, ltb, if, dec_lt, length-set, drop-cons, drop-set-lt, get_or-set_same, append_assoc, append-nil, drop_of_length-le, le-ltb, lt-ltb}
use Rattle.text.specs.Text.{digit, digits_in, decimal}

-- one digit more is left before the last
pub more_digits : (k v : ℕ) → 9 < v → digits_in (suc k) v ≡ digits_in k (v / 10) ++ digit v ∷ []
unfolding digits_in
more_digits k v h = rw (le-ltb v 10 h)

-- a digit alone
pub one_digit : (k v : ℕ) → v ≤ 9 → digits_in (suc k) v ≡ digit v ∷ []
unfolding digits_in
one_digit k v h = rw (lt-ltb v 10 (omega arith))

-- how long a number is
digits_short : (k v : ℕ) → length (digits_in k v) ≤ k
unfolding digits_in
digits_short zero v = omega arith
digits_short (suc k) v = go (ltb v 10) (digits_short k (v / 10))
  where
    go : (b : Bool) → length (digits_in k (v / 10)) ≤ k → length (if b [] (digits_in k (v / 10)) ++ digit v ∷ []) ≤ suc k
    go true h = omega arith
    go false h = rw length-append (omega arith)

pub decimal_short : (v : ℕ) → length (decimal v) ≤ 20
decimal_short v = digits_short 20 v

pub one_place : (v : ℕ) → v < 10 → decimal v ≡ digit v ∷ []
one_place v h = one_digit 19 v (omega arith)

pub two_places : (v : ℕ) → v < 100 → length (decimal v) ≤ 2
two_places v h = go (dec_lt v 10)
  where
    go : Dec (v < 10) → length (decimal v) ≤ 2
    go (yes l) = rw (one_place v l) (omega arith)
    go (no l) = rw (more_digits 19 v (omega arith), one_digit 18 (v / 10) (omega arith)) (omega arith)

-- where the digits stand: those that are left, and those from a place on
pub record Digits (v : ℕ) (digits : List ℕ) (place left : ℕ) : Type 0 where
  pub twenty : length digits ≡ 20
  pub within : place ≤ 19
  pub small : left < 10 ^ suc place
  pub so_far : digits_in (suc place) left ++ drop (suc place) digits ≡ decimal v

pub digits_start : (v : ℕ) (digits : List ℕ) → length digits ≡ 20 → v < 2 ^ 64 → Digits v digits 19 v
digits_start v digits l h =
    record {
      twenty = l;
      within = omega arith;
      small = omega arith;
      so_far = rw (drop_of_length-le digits {i = 20} (omega arith), append-nil);
    }

-- the digit at a place, and those after it
put : (digits : List ℕ) (place b : ℕ) → place < length digits → drop place (set digits place b) ≡ b ∷ drop (suc place) digits
put digits place b h =
    let l : place < length (set digits place b) = rw length-set h in
    let k : place < suc place = omega arith in
    drop-cons (set digits place b) place 0 l ∙ rw (get_or-set_same digits place b 0 h, drop-set-lt (suc place) digits place b k)

module _ {v : ℕ} {digits : List ℕ} {place left : ℕ} (g : Digits v digits place left) where
  pub some_left : 9 < left → 1 ≤ place
  some_left h = go place g.small
    where
      go : (p : ℕ) → left < 10 ^ suc p → 1 ≤ p
      go zero s = absurd (omega arith)
      go (suc p) s = omega arith

  pub digits_more : (b : ℕ) → b ≡ digit left → 9 < left → Digits v (set digits place b) (place - 1) (left / 10)
  digits_more b e h =
      let p : suc (place - 1) ≡ place = omega (arith, some_left h) in
      record {
        twenty = simp length-set g.twenty;
        within = omega (arith, g.within);
        small = rw p (omega (arith, g.small));
        so_far =
            rw (p, put digits place b (omega (arith, g.within, g.twenty)), e)
            (sym (append_assoc (digits_in place (left / 10)) (digit left ∷ []) (drop (suc place) digits)) ∙ rw (more_digits place left h) at g.so_far);
      }

  pub digits_end : (b : ℕ) → b ≡ digit left → left ≤ 9 → drop place (set digits place b) ≡ decimal v
  digits_end b e h =
      rw (put digits place b (omega (arith, g.within, g.twenty)), e) (rw (one_digit place left h) at g.so_far)
