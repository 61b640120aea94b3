-- A list of words that a driver takes, to one byte of its planes: the word at the stopping place decides it, or else the record; so the theorem.
-- Assumes nothing.
use Rattle.ground.proofs.Names.{ℕ, zero, suc, ◌-◌, ◌<◌, add-zero, arith, Bool, true, false, List, [], ◌∷◌, ◌≡◌, refl, sym, ap, ◌∙◌, length, get_or, drop, get_or-drop, if}
use Rattle.words.specs.declared.Plane.{Plane}
use Rattle.words.specs.declared.Plane.TheVariants.{P0, P1}
use Rattle.digits.specs.Digits.{plane_of}
use Rattle.device.specs.Taken.{taken}
use Rattle.device.specs.declared.Device.{Device}
use Rattle.plans.specs.Words.{Sized}
use Rattle.look_back.specs.LookBack.{byte_of, byte_after}
use Rattle.look_back.specs.Stops.{stops, place_before, last_place, stopping_place}
use Rattle.look_back.specs.ByteBy.{left_by, byte_by}
use Rattle.look_back.specs.NoFurther.{NoFurther}
use Rattle.look_back.proofs.PlaceLaws.{holds_there, holds_not, drop_place}
use Rattle.look_back.proofs.PlaneLaws.{taken_plane, new_length, new_byte}

-- a list, by its stopping place
module _ (p : Plane) (i : ℕ) (k : i < 16) where
  byte_more : (n : ℕ) (b : Bool) (w : ℕ) (ws : List ℕ) (held : ℕ) → byte_by n ws (if b (left_by w) held) ≡ byte_by (place_before b n) (w ∷ ws) held
  byte_more (suc n) b w ws held = refl
  byte_more zero true w ws held = refl
  byte_more zero false w ws held = refl

  pub looked : (ws : List ℕ) (d : Device) → length (plane_of d.registers.planes p) ≡ 16 → byte_after d p i ws ≡ byte_by (stopping_place p i ws) ws (byte_of d p i)
  unfolding last_place
  looked [] d h = refl
  looked (w ∷ ws) d h =
      let l = plane_of d.registers.planes p in
      let t = taken_plane d w p in
      let e : byte_of (taken d w) p i ≡ if (stops p i w) (left_by w) (byte_of d p i) = rw t (new_byte p w l i h k) in
      looked ws (taken d w) (rw t (new_length p w l h))
      ∙ ap (byte_by (stopping_place p i ws) ws) e
      ∙ byte_more (stopping_place p i ws) (stops p i w) w ws (byte_of d p i)

-- planes are sixteen digits
sized : (p : Plane) (d : Device) → Sized d.registers.planes → length (plane_of d.registers.planes p) ≡ 16
sized P0 d z = z.first
sized P1 d z = z.second

-- by a place that was found to be the stopping place
pub looked_by : (p : Plane) (i : ℕ) → i < 16 → (ws : List ℕ) (d : Device) → Sized d.registers.planes → (n : ℕ) → n ≡ stopping_place p i ws → byte_by n ws (byte_of d p i) ≡ byte_after d p i ws
looked_by p i k ws d z n e = rw e (sym (looked p i k ws d (sized p d z)))

-- the byte that the word at a place leaves
pub byte_at : (n : ℕ) (ws : List ℕ) (held : ℕ) → 0 < n → byte_by n ws held ≡ left_by (get_or ws (n - 1) 0)
byte_at zero ws held h = absurd (omega arith)
byte_at (suc n) ws held h = let e : suc n - 1 ≡ n = omega arith in rw e

-- the theorem, by the byte that the stopping place decides
stops_there : (p : Plane) (i : ℕ) (ws : List ℕ) → 0 < stopping_place p i ws → stops p i (get_or ws (stopping_place p i ws - 1) 0) ≡ true
stops_there p i ws h = (holds_there (stops p i) ws (stopping_place p i ws - 1) (omega arith)).0

-- the word that a part of a list begins with
first_word : (l : List ℕ) (m : ℕ) → get_or l m 0 ≡ get_or (drop m l) 0 0
first_word l m = sym (get_or-drop m l 0 0 ∙ ap (λ (n : ℕ). get_or l n 0) (add-zero m))

alike : (d e : Device) (p : Plane) (i : ℕ) (xs ys : List ℕ) (j : ℕ)
    → Sized d.registers.planes → Sized e.registers.planes → i < 16
    → 0 < stopping_place p i xs
    → drop (stopping_place p i xs - 1) xs ≡ drop j ys
    → byte_after d p i xs ≡ byte_after e p i ys
alike d e p i xs ys j zd ze k h g =
    let m = stopping_place p i xs - 1 in
    let q : stopping_place p i xs ≡ suc m = omega arith in
    let first : stopping_place p i (drop j ys) ≡ 1 = ap (stopping_place p i) (sym g) ∙ (holds_there (stops p i) xs m q).1 in
    let r : stopping_place p i ys ≡ suc j = drop_place (stops p i) ys j first in
    let word : get_or xs m 0 ≡ get_or ys j 0 = first_word xs m ∙ ap (λ (l : List ℕ). get_or l 0 0) g ∙ sym (first_word ys j) in
    looked p i k xs d (sized p d zd)
    ∙ rw (q, word) (sym (looked p i k ys e (sized p e ze) ∙ rw r))

falls_back : (d : Device) (p : Plane) (i : ℕ) (ws : List ℕ) → Sized d.registers.planes → i < 16 → stopping_place p i ws ≡ 0 → byte_after d p i ws ≡ byte_of d p i
falls_back d p i ws z k h = looked p i k ws d (sized p d z) ∙ rw h

pub no_further : NoFurther
no_further = record { stops_there = stops_there; none_later = λ p i. holds_not (stops p i); alike = alike; falls_back = falls_back }
