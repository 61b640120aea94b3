-- A word that a driver takes, to one of its planes: as it was, cleared, or with a digit set; and so to one byte, by whether the word stops.
-- Assumes nothing.
use Rattle.ground.proofs.Names.{ℕ, ◌+◌, ◌/◌, ◌%◌, ◌<◌, ◌≤◌, ℕ_discrete, arith, Bool, true, false, ◌&&◌, ◌||◌, Bool·beq, true≢false, List, ◌≡◌, refl, sym, ap, ◌∙◌, eqb, length, get_or, set, replicate, length-set, get_or-replicate, get_or-set_same, get_or-set_other, eqb-true, eqb-false, ne_eqb, le-ltb, if, bit, all, all_at, low_bit, same}
use mathlib.Core.Bool.{or-false}
use Rattle.words.specs.Addresses.{high_register, written_at, read_at}
use Rattle.words.specs.declared.Plane.{Plane}
use Rattle.words.specs.declared.Plane.TheVariants.{P0, P1}
use Rattle.words.specs.declared.Register.{Register}
use Rattle.words.specs.declared.Register.TheVariants.{NoOp, Control, Configuration, KeyMask, KeyDebounced, KeyPressed, Intensity, Digit, BothPlanes, Unlisted}
use Rattle.digits.specs.Digits.{plane_of, cleared}
use Rattle.digits.specs.declared.Planes.{Planes}
use Rattle.registers.specs.Registers.{written, after_read}
use Rattle.registers.specs.declared.Registers.{Registers}
use Rattle.device.specs.Taken.{taken}
use Rattle.device.specs.declared.Device.{Device}
use Rattle.look_back.specs.Stops.{first_address, stops}
use Rattle.look_back.specs.ByteBy.{left_by}

-- a read leaves the planes
read_planes : (x : Registers) (r : Register) → (after_read x r).planes ≡ x.planes
read_planes x NoOp = refl
read_planes x (Control c) = refl
read_planes x Configuration = refl
read_planes x (KeyMask g) = refl
read_planes x (KeyDebounced g) = refl
read_planes x (KeyPressed g) = refl
read_planes x (Intensity j) = refl
read_planes x (Digit p i) = refl
read_planes x (BothPlanes i) = refl
read_planes x Unlisted = refl

-- the registers whose write leaves them too
abbrev leaves : Register → Bool
leaves NoOp = true
leaves (Control c) = true
leaves Configuration = false
leaves (KeyMask g) = true
leaves (KeyDebounced g) = true
leaves (KeyPressed g) = true
leaves (Intensity j) = true
leaves (Digit p i) = false
leaves (BothPlanes i) = false
leaves Unlisted = true

write_planes : (x : Registers) (r : Register) (v : ℕ) → leaves r ≡ true → (written x r v).planes ≡ x.planes
write_planes x NoOp v h = refl
write_planes x (Control c) v h = refl
write_planes x Configuration v h = absurd (true≢false (sym h))
write_planes x (KeyMask g) v h = refl
write_planes x (KeyDebounced g) v h = refl
write_planes x (KeyPressed g) v h = refl
write_planes x (Intensity j) v h = refl
write_planes x (Digit p i) v h = absurd (true≢false (sym h))
write_planes x (BothPlanes i) v h = absurd (true≢false (sym h))
write_planes x Unlisted v h = refl

-- the row of addresses that a plane has, and the tests of an address: in that row or in that of both planes
abbrev row_of : Plane → ℕ
row_of P0 = 2
row_of P1 = 4

abbrev in_row : Plane → ℕ → Bool
in_row p a = eqb (a / 16) (row_of p) || eqb (a / 16) 6

-- what an address names: configuration, a digit, or a register whose write leaves the planes
abbrev elsewhere : ℕ → Bool
elsewhere a = eqb a 4 || eqb (a / 16) 2 || eqb (a / 16) 4 || eqb (a / 16) 6 || leaves (written_at a)

leaves_at : (a : ℕ) → a < 128 → eqb a 4 ≡ false → (a / 16 ≡ 2 → ⊥) → (a / 16 ≡ 4 → ⊥) → (a / 16 ≡ 6 → ⊥) → leaves (written_at a) ≡ true
leaves_at a l e z y u =
    let e2 = ne_eqb (a / 16) 2 z in
    let e4 = ne_eqb (a / 16) 4 y in
    let e6 = ne_eqb (a / 16) 6 u in
    rw (e2, e4, e6) (rw (e, e2, e4, e6) at (all_at elsewhere 128 refl a l))

digit_at_lem : (a r : ℕ) → a / 16 ≡ r → 2 ≤ r → written_at a ≡ high_register r (a % 16)
digit_at_lem a r e l = rw (ne_eqb (a / 8) 1 (λ z. omega arith), le-ltb a 8 (omega arith), e)

-- one plane after a word
abbrev new_plane : Plane → ℕ → List ℕ → List ℕ
new_plane p w l =
    if (bit 15 w) l
    (if (eqb (w / 256 % 128) 4) (if (bit 5 w) (replicate 16 0) l)
    (if (in_row p (w / 256 % 128)) (set l (w / 256 % 128 % 16) (w % 256)) l))

-- after a read they are as they were
by_read : (d : Device) (w : ℕ) → bit 15 w ≡ true → (taken d w).registers.planes ≡ d.registers.planes
unfolding taken
by_read d w e = rw e (read_planes d.registers (read_at (w / 256 % 128)))

-- of a write: configuration, then by its row
module _ (d : Device) (w : ℕ) (e15 : bit 15 w ≡ false) where
  abbrev a : ℕ
  a = w / 256 % 128

  abbrev x : Registers
  x = d.registers

  by_write : (taken d w).registers ≡ written x (written_at a) (w % 256)
  unfolding taken
  by_write = rw e15

  by_configuration : (p : Plane) → a ≡ 4 → plane_of (taken d w).registers.planes p ≡ if (bit 5 w) (replicate 16 0) (plane_of x.planes p)
  by_configuration p e = rw (by_write, e, low_bit 8 5 w (omega arith)) (go (bit 5 w) p)
    where
      go : (b : Bool) (p : Plane) → plane_of (if b cleared x.planes) p ≡ if b (replicate 16 0) (plane_of x.planes p)
      go true P0 = refl
      go true P1 = refl
      go false P0 = refl
      go false P1 = refl

  by_row : (p : Plane) → eqb a 4 ≡ false → plane_of (taken d w).registers.planes p ≡ if (in_row p a) (set (plane_of x.planes p) (a % 16) (w % 256)) (plane_of x.planes p)
  by_row p n = go p (ℕ_discrete (a / 16) 2) (ℕ_discrete (a / 16) 4) (ℕ_discrete (a / 16) 6)
    where
      kept : (a / 16 ≡ 2 → ⊥) → (a / 16 ≡ 4 → ⊥) → (a / 16 ≡ 6 → ⊥) → (written x (written_at a) (w % 256)).planes ≡ x.planes
      kept z y u = write_planes x (written_at a) (w % 256) (leaves_at a (omega arith) n z y u)

      go : (p : Plane) → Dec (a / 16 ≡ 2) → Dec (a / 16 ≡ 4) → Dec (a / 16 ≡ 6)
          → plane_of (taken d w).registers.planes p ≡ if (in_row p a) (set (plane_of x.planes p) (a % 16) (w % 256)) (plane_of x.planes p)
      go P0 (yes e) _ _ = rw (by_write, digit_at_lem a 2 e (omega arith), e)
      go P1 (yes e) _ _ = rw (by_write, digit_at_lem a 2 e (omega arith), e)
      go P0 (no z) (yes e) _ = rw (by_write, digit_at_lem a 4 e (omega arith), e)
      go P1 (no z) (yes e) _ = rw (by_write, digit_at_lem a 4 e (omega arith), e)
      go P0 (no z) (no y) (yes e) = rw (by_write, digit_at_lem a 6 e (omega arith), e)
      go P1 (no z) (no y) (yes e) = rw (by_write, digit_at_lem a 6 e (omega arith), e)
      go P0 (no z) (no y) (no u) = rw (by_write, kept z y u, ne_eqb (a / 16) 2 z, ne_eqb (a / 16) 6 u)
      go P1 (no z) (no y) (no u) = rw (by_write, kept z y u, ne_eqb (a / 16) 4 y, ne_eqb (a / 16) 6 u)

pub taken_plane : (d : Device) (w : ℕ) (p : Plane) → plane_of (taken d w).registers.planes p ≡ new_plane p w (plane_of d.registers.planes p)
taken_plane d w p = go (bit 15 w) refl (eqb (w / 256 % 128) 4) refl
  where
    go : (b : Bool) → bit 15 w ≡ b → (c : Bool) → eqb (w / 256 % 128) 4 ≡ c → plane_of (taken d w).registers.planes p ≡ new_plane p w (plane_of d.registers.planes p)
    go true e c g = rw e (ap (λ (y : Planes). plane_of y p) (by_read d w e))
    go false e true g = rw (e, g) (by_configuration d w e p (eqb-true _ _ g))
    go false e false g = rw (e, g) (by_row d w e p g)

pub new_length : (p : Plane) (w : ℕ) (l : List ℕ) → length l ≡ 16 → length (new_plane p w l) ≡ 16
new_length p w l h = go (bit 15 w) (eqb (w / 256 % 128) 4) (bit 5 w) (in_row p (w / 256 % 128))
  where
    go : (b c r t : Bool) → length (if b l (if c (if r (replicate 16 0) l) (if t (set l (w / 256 % 128 % 16) (w % 256)) l))) ≡ 16
    go true c r t = h
    go false true true t = refl
    go false true false t = h
    go false false r true = length-set l _ _ ∙ h
    go false false r false = h

-- the test for a write of the byte, by the row and the digit of its address: computed
abbrev row_right : Plane → ℕ → ℕ → Bool
row_right p a i = Bool·beq (eqb a (first_address p + i) || eqb a (0x60 + i)) (in_row p a && eqb (a % 16) i)

row_right_lem : (p : Plane) (a i : ℕ) → a < 128 → i < 16 → (eqb a (first_address p + i) || eqb a (0x60 + i)) ≡ (in_row p a && eqb (a % 16) i)
row_right_lem P0 a i l k = same _ _ (all_at (row_right P0 a) 16 (all_at (λ a. all (row_right P0 a) 16) 128 refl a l) i k)
row_right_lem P1 a i l k = same _ _ (all_at (row_right P1 a) 16 (all_at (λ a. all (row_right P1 a) 16) 128 refl a l) i k)

get_d_touched : (t : Bool) (l : List ℕ) (k v i : ℕ) → i < length l → get_or (if t (set l k v) l) i 0 ≡ if (t && eqb k i) v (get_or l i 0)
get_d_touched false l k v i h = refl
get_d_touched true l k v i h = go (eqb k i) refl
  where
    go : (b : Bool) → eqb k i ≡ b → get_or (set l k v) i 0 ≡ if b v (get_or l i 0)
    go true e = let q = eqb-true k i e in rw q (get_or-set_same l i v 0 h)
    go false e = get_or-set_other l k i v 0 (λ q. eqb-false k i e (sym q))

-- the byte in it
pub new_byte : (p : Plane) (w : ℕ) (l : List ℕ) (i : ℕ) → length l ≡ 16 → i < 16 → get_or (new_plane p w l) i 0 ≡ if (stops p i w) (left_by w) (get_or l i 0)
new_byte p w l i h k = go (bit 15 w) refl (eqb (w / 256 % 128) 4) refl
  where
    go : (b : Bool) → bit 15 w ≡ b → (c : Bool) → eqb (w / 256 % 128) 4 ≡ c → get_or (new_plane p w l) i 0 ≡ if (stops p i w) (left_by w) (get_or l i 0)
    go true e c g = rw e
    go false e true g =
        let q = eqb-true (w / 256 % 128) 4 g in
        let none = elim p as (λ p. (in_row p 4 && eqb (4 % 16) i) ≡ false) [ P0 ↦ refl | P1 ↦ refl ] in
        let n : (eqb 4 (first_address p + i) || eqb 4 (0x60 + i)) ≡ false = row_right_lem p 4 i (omega arith) k ∙ none in
        rw (e, q, n) (elim (bit 5 w) as (λ b. get_or (if b (replicate 16 0) l) i 0 ≡ if b 0 (get_or l i 0)) [ true ↦ get_or-replicate 16 i 0 0 k | false ↦ refl ])
    go false e false g =
        let s : stops p i w ≡ (in_row p (w / 256 % 128) && eqb (w / 256 % 128 % 16) i) = simp (e, g, row_right_lem p (w / 256 % 128) i (omega arith) k, or-false) in
        rw (s, e, g) (get_d_touched (in_row p (w / 256 % 128)) l (w / 256 % 128 % 16) (w % 256) i (rw h k))
