-- The texts of some elements, one after another.
-- Assumes nothing.
use Rattle.ground.proofs.Names.{ℕ, ◌+◌, ◌*◌, ◌≤◌, ◌<◌, add-one, arith, List, [], ◌∷◌, ◌++◌, ◌≡◌, refl, ◌∙◌, length, drop, get_or, length-append, drop_of_length-le, sets, drop-cons}
use Rattle.text.specs.Text.{each}
use Rattle.text.specs.Written.{Written}
use Rattle.text.proofs.Room.{written_length, Left, all_written, part_written}

-- the text of one element more
each_next : (f : ℕ → List ℕ) (xs : List ℕ) (i : ℕ) → i < length xs → each f (drop i xs) ≡ f (get_or xs i 0) ++ each f (drop (i + 1) xs)
unfolding each
each_next f xs i h = rw (add-one, drop-cons xs i 0)

-- a loop that writes the texts of some elements, each w bytes long: i of them are written
pub record Texts (f : ℕ → List ℕ) (w : ℕ) (xs : List ℕ) (at : ℕ) (out : List ℕ) (i place : ℕ) (out' : List ℕ) : Type 0 where
  pub within : i ≤ length xs
  pub size : length out' ≡ length out
  pub reached : place ≡ at + w * i
  pub left : Left (each f xs) at out (each f (drop i xs)) place out'

module _ {f : ℕ → List ℕ} {w : ℕ} {xs : List ℕ} {at : ℕ} {out : List ℕ} where
  pub texts_start : Texts f w xs at out 0 at out
  texts_start = record { within = omega arith; size = refl; reached = omega arith; left = record { bytes = refl; end = refl } }

  pub texts_more : {i place : ℕ} {out' : List ℕ} (out'' : List ℕ) → Texts f w xs at out i place out' → i < length xs → length (f (get_or xs i 0)) ≡ w
      → out'' ≡ sets out' place (f (get_or xs i 0)) → Texts f w xs at out (i + 1) (place + w) out''
  texts_more {i} {place} {out'} out'' s h l e =
      let v : Written (f (get_or xs i 0)) place out' out'' (place + w) = record { bytes = e; place = omega arith } in
      record {
        within = omega arith;
        size = written_length _ _ _ _ _ v ∙ s.size;
        reached = omega arith;
        left = part_written _ _ _ _ _ _ _ _ _ (rw (each_next f xs i h) at s.left) v;
      }

  pub texts_all : {i place : ℕ} {out' : List ℕ} → Texts f w xs at out i place out' → length xs ≤ i → Written (each f xs) at out out' place
  unfolding each
  texts_all {i} s h = all_written _ _ _ _ _ (rw (drop_of_length-le xs h) at s.left)

-- texts of one length
pub length_each : (f : ℕ → List ℕ) (k : ℕ) → ((x : ℕ) → length (f x) ≡ k) → (xs : List ℕ) → length (each f xs) ≡ k * length xs
unfolding each
length_each f k h [] = omega arith
length_each f k h (x ∷ xs) = rw (length-append, h x, length_each f k h xs) (omega arith)
