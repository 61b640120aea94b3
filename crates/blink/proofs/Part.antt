-- The digits that a plane call gives back.
-- Assumes nothing.
use Rattle.ground.proofs.Names.{ℕ, ◌+◌, ◌-◌, ◌<◌, ◌≤◌, arith, List, ◌≡◌, length, get_or, length-take, length-drop, get_or-drop, get_or-take}
use Rattle.words.specs.declared.Plane.{Plane}
use Rattle.words.specs.declared.Plane.TheVariants.{P0, P1}
use Rattle.refusals.specs.Refusals.{plane_refusal}
use Rattle.refusals.proofs.RefusalLaws.{PlaneServed, plane_served}
use Rattle.blink.specs.Part.{lent_plane, plane_part}
use Rattle.blink.specs.PartDigits.{PartDigits}

lent_long : (shown : Plane) {p0 p1 : List ℕ} {first last : ℕ} → PlaneServed p0 p1 first last → length (lent_plane shown p0 p1) ≡ 16
lent_long P0 s = s.length0
lent_long P1 s = s.length1

part_size : (shown : Plane) (p0 p1 : List ℕ) (first last : ℕ) → plane_refusal p0 p1 first last ≡ 0
    → first + length (plane_part shown p0 p1 first last) ≡ last + 1
part_size shown p0 p1 first last e =
    let s = plane_served p0 p1 first last e in
    let long = lent_long shown s in
    rw e (simp (length-take, length-drop) (omega arith))

module _ (p0 p1 : List ℕ) (first k last : ℕ) (e : plane_refusal p0 p1 first last ≡ 0) (h : first + k ≤ last) where
  part_digit : (shown : Plane) → get_or (plane_part shown p0 p1 first last) k 0 ≡ get_or (lent_plane shown p0 p1) (first + k) 0
  part_digit shown = let l : k < last + 1 - first = omega arith in rw (e, get_or-take, get_or-drop)

  p0_digit : get_or (plane_part P0 p0 p1 first last) k 0 ≡ get_or p0 (first + k) 0
  p0_digit = part_digit P0

  p1_digit : get_or (plane_part P1 p0 p1 first last) k 0 ≡ get_or p1 (first + k) 0
  p1_digit = part_digit P1

pub part_digits : PartDigits
part_digits = record { size = part_size; of_p0 = p0_digit; of_p1 = p1_digit }
