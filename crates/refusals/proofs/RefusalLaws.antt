-- The first number of a list that isn't 0, and what rows that gave 0 tell.
--     first_zero, first-last, found-last, found-rest       a list of numbers
--     size_served, segments-served, plane-served       what calls that are served have
--     row_number                 no row of the table has the number 0
--     served_number, refused_number       so a call is served where its number is 0
-- Assumes nothing.
use Rattle.ground.proofs.Names.{ℕ, ◌<◌, ◌≤◌, arith, Bool, true, false, true≢false, ◌&&◌, List, [], ◌∷◌, ◌++◌, ◌≡◌, refl, sym, eqb, leb, ltb, length, eqb-true, eqb-false, leb-true, ltb-true, ltb-false, if, passed, and_left, and_right}
use Rattle.std.specs.Prelude.{Result, Ok, Err}
use Rattle.std.specs.Result.{is_err}
use Rattle.refusals.specs.Numbers.{number_by, number_of}
use Rattle.refusals.specs.declared.Refusal.{Refusal}
use Rattle.refusals.specs.declared.Refusal.TheVariants.{Chain, Driver, Clocks, Sent, Room, Argument, Unsound, Record, Script, Clash, Address, Wanted, List as ListRow, Lacked}
use Rattle.refusals.specs.Refusals.{bytes_for, clocks_refusal, sent_refusal, room_refusal, segments_refusal, plane_refusal, first_of, size_refusal}

-- the first number of a list that isn't 0 is 0: all are
pub first_zero : (k : ℕ) (ks : List ℕ) → first_of (k ∷ ks) ≡ 0 → (k ≡ 0) × (first_of ks ≡ 0)
first_zero k ks = go (eqb k 0) refl
  where
    go : (b : Bool) → eqb k 0 ≡ b → if b (first_of ks) k ≡ 0 → (k ≡ 0) × (first_of ks ≡ 0)
    go true t e = (eqb-true k 0 t, e)
    go false t e = absurd (eqb-false k 0 t e)

-- the last number of a list needs no test
pub first_last : (k : ℕ) → first_of (k ∷ []) ≡ k
first_last k = go (eqb k 0) refl
  where
    go : (b : Bool) → eqb k 0 ≡ b → if b 0 k ≡ k
    go true e = sym (eqb-true k 0 e)
    go false e = refl

-- the first number of a list with one more: that of the list, or the one more
pub found_last : (ks : List ℕ) (d : ℕ) → if (eqb (first_of ks) 0) d (first_of ks) ≡ first_of (ks ++ d ∷ [])
found_last [] d = sym (first_last d)
found_last (k ∷ ks) d = go (eqb k 0) refl (found_last ks d)
  where
    go : (z : Bool) → eqb k 0 ≡ z → if (eqb (first_of ks) 0) d (first_of ks) ≡ first_of (ks ++ d ∷ [])
        → if (eqb (if z (first_of ks) k) 0) d (if z (first_of ks) k) ≡ if z (first_of (ks ++ d ∷ [])) k
    go true e r = r
    go false e r = rw e

-- the first number of two lists, one after the other
pub found_rest : (ks rest : List ℕ) → if (eqb (first_of ks) 0) (first_of rest) (first_of ks) ≡ first_of (ks ++ rest)
found_rest [] rest = refl
found_rest (k ∷ ks) rest = go (eqb k 0) refl (found_rest ks rest)
  where
    go : (z : Bool) → eqb k 0 ≡ z → if (eqb (first_of ks) 0) (first_of rest) (first_of ks) ≡ first_of (ks ++ rest)
        → if (eqb (if z (first_of ks) k) 0) (first_of rest) (if z (first_of ks) k) ≡ if z (first_of (ks ++ rest)) k
    go true e r = r
    go false e r = rw e

-- a test that refuses where it holds doesn't hold, where the number is 0
fails : (b : Bool) (k : ℕ) → 0 < k → if b k 0 ≡ 0 → b ≡ false
fails true k p e = absurd (omega (arith, p, e))
fails false k p e = refl

-- none of 3, 4 and 5: at most 4,096 clocks, with bytes enough
pub size_served : (c sent room : ℕ) → size_refusal c sent room ≡ 0 → (c ≤ 4096) × (bytes_for c ≤ sent) × (bytes_for c ≤ room)
size_served c sent room e =
    let a = first_zero (clocks_refusal c) (sent_refusal c sent ∷ room_refusal c room ∷ []) e in
    let b = first_zero (sent_refusal c sent) (room_refusal c room ∷ []) a.1 in
    let d = first_zero (room_refusal c room) [] b.1 in (
      ltb-false _ _ (fails (ltb 4096 c) 3 (omega arith) a.0),
      ltb-false _ _ (fails (ltb sent (bytes_for c)) 4 (omega arith) b.0),
      ltb-false _ _ (fails (ltb room (bytes_for c)) 5 (omega arith) d.0),
    )

-- what a cathode shows isn't refused: there is such a cathode
pub segments_served : (d : ℕ) (font14 font16 : List ℕ) → segments_refusal d font14 font16 ≡ 0 → d < 8
segments_served d font14 font16 e =
    let t = (passed (ltb d 8 && eqb (length font14) 128 && eqb (length font16) 128) 0 5 e).0 in
    ltb-true d 8 (and_left (ltb d 8) (eqb (length font14) 128) (and_left (ltb d 8 && eqb (length font14) 128) (eqb (length font16) 128) t))

-- what a range of lent planes that isn't refused has
pub record PlaneServed (p0 p1 : List ℕ) (first last : ℕ) : Type 0 where
  pub length0 : length p0 ≡ 16
  pub length1 : length p1 ≡ 16
  pub digits : last < 16
  pub range : first ≤ last

pub plane_served : (p0 p1 : List ℕ) (first last : ℕ) → plane_refusal p0 p1 first last ≡ 0 → PlaneServed p0 p1 first last
plane_served p0 p1 first last e =
    let t = (passed (eqb (length p0) 16 && eqb (length p1) 16 && ltb last 16 && leb first last) 0 5 e).0 in
    let u = and_left (eqb (length p0) 16 && eqb (length p1) 16 && ltb last 16) (leb first last) t in
    let v = and_left (eqb (length p0) 16 && eqb (length p1) 16) (ltb last 16) u in
    record {
      length0 = eqb-true _ _ (and_left (eqb (length p0) 16) (eqb (length p1) 16) v);
      length1 = eqb-true _ _ (and_right (eqb (length p0) 16) (eqb (length p1) 16) v);
      digits = ltb-true _ _ (and_right (eqb (length p0) 16 && eqb (length p1) 16) (ltb last 16) u);
      range = leb-true _ _ (and_right (eqb (length p0) 16 && eqb (length p1) 16 && ltb last 16) (leb first last) t);
    }

-- no row of the table has the number 0
pub row_number : (r : Refusal) → number_by r ≡ 0 → ⊥
row_number Chain e = absurd (omega (arith, e))
row_number Driver e = absurd (omega (arith, e))
row_number Clocks e = absurd (omega (arith, e))
row_number Sent e = absurd (omega (arith, e))
row_number Room e = absurd (omega (arith, e))
row_number Argument e = absurd (omega (arith, e))
row_number Unsound e = absurd (omega (arith, e))
row_number Record e = absurd (omega (arith, e))
row_number Script e = absurd (omega (arith, e))
row_number Clash e = absurd (omega (arith, e))
row_number Address e = absurd (omega (arith, e))
row_number Wanted e = absurd (omega (arith, e))
row_number ListRow e = absurd (omega (arith, e))
row_number Lacked e = absurd (omega (arith, e))

-- what was served has the number 0, and what was refused hasn't
pub served_number : {A : Type 0} (o : Result A Refusal) → is_err o ≡ false → number_of o ≡ 0
served_number (Ok x) e = refl
served_number (Err r) e = absurd (true≢false e)

pub refused_number : {A : Type 0} (o : Result A Refusal) → is_err o ≡ true → number_of o ≡ 0 → ⊥
refused_number (Ok x) e = absurd (true≢false (sym e))
refused_number (Err r) e = row_number r
