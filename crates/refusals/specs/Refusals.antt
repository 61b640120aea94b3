-- Believed: document 01, "Numbers a call may give": 1 to 7, in the table's order, and document 02's 10 to 14, in the order 1 to 7, 10, 11, 14, 12, 13. Each is its number where the row applies, else 0.
-- Assumes nothing.
use Rattle.std.specs.Prelude.{ℕ, ◌+◌, ◌*◌, ◌/◌, Bool, ◌&&◌, List, [], ◌∷◌, eqb, leb, ltb, length}
use Rattle.ground.specs.Choice.{if}

-- "Bits on the wire": c clocks need c/8 bytes, rounded up
abbrev pub bytes_for : ℕ → ℕ
bytes_for c = (c + 7) / 8

-- 1: the chain has 0 or more than 16 records
abbrev pub chain_refusal : ℕ → ℕ
chain_refusal n = if (ltb 0 n && ltb n 17) 0 1

-- 2: driver number j not in 1..n
abbrev pub driver_refusal : ℕ → ℕ → ℕ
driver_refusal n j = if (ltb 0 j && leb j n) 0 2

-- 3: more than 4,096 clocks in one access
abbrev pub clocks_refusal : ℕ → ℕ
clocks_refusal c = if (ltb 4096 c) 3 0

-- 4: sent bytes fewer than the clocks need
abbrev pub sent_refusal : ℕ → ℕ → ℕ
sent_refusal c sent = if (ltb sent (bytes_for c)) 4 0

-- 5: room for answer bytes fewer than the clocks need
abbrev pub room_refusal : ℕ → ℕ → ℕ
room_refusal c room = if (ltb room (bytes_for c)) 5 0

-- 6: a cathode above 7, or a glyph table not 128 long
abbrev pub segments_refusal : ℕ → List ℕ → List ℕ → ℕ
segments_refusal d font14 font16 = if (ltb d 8 && eqb (length font14) 128 && eqb (length font16) 128) 0 6

-- 6: pin levels above 31 for the old family, above 28 bits for a MAX6957 (document 02, request 8); of an unknown family they are not tested
abbrev pub levels_refusal : ℕ → ℕ → ℕ
levels_refusal family l = if (eqb family 0) (if (ltb 31 l) 6 0) (if (eqb family 1) (if (ltb 268435455 l) 6 0) 0)

-- 6: a digit alone above 15
abbrev pub brightness_refusal : ℕ → ℕ
brightness_refusal i = if (ltb i 16) 0 6

-- 6: a plane above 1, or a digit above 15 (document 02, request 9)
abbrev pub look_back_refusal : ℕ → ℕ → ℕ
look_back_refusal plane digit = if (ltb plane 2 && ltb digit 16) 0 6

-- 6: a digit of a range above 15, its last digit below its first, or a lent plane not 16 long
abbrev pub plane_refusal : List ℕ → List ℕ → ℕ → ℕ → ℕ
plane_refusal p0 p1 first last = if (eqb (length p0) 16 && eqb (length p1) 16 && ltb last 16 && leb first last) 0 6

-- 7: some record of the chain isn't sound
abbrev pub sound_refusal : Bool → ℕ
sound_refusal sound = if sound 0 7

-- 10: two parts with one address (document 02, request 3)
abbrev pub clash_refusal : Bool → ℕ
clash_refusal distinct = if distinct 0 10

-- 11: an address above 127 (document 02, request 3)
abbrev pub address_refusal : Bool → ℕ
address_refusal seven = if seven 0 11

-- 14: a family number unknown in some record (document 02, request 8)
abbrev pub family_refusal : Bool → ℕ
family_refusal known = if known 0 14

-- 14: a call that the driver lacks (document 02, request 8)
abbrev pub lack_refusal : Bool → ℕ
lack_refusal lacks = if lacks 14 0

-- 12: the wanted contents aren't 32 bytes for each of n drivers (document 02, request 6)
abbrev pub wanted_refusal : ℕ → ℕ → ℕ
wanted_refusal n wanted = if (eqb wanted (32 * n)) 0 12

-- 13: the list's room is too small for k accesses of n words (document 02, request 6)
abbrev pub list_refusal : ℕ → ℕ → ℕ → ℕ
list_refusal n k room = if (ltb room (k * n)) 13 0

-- the first number of a list that isn't 0, else 0: the first that applies is given
abbrev pub first_of : List ℕ → ℕ
first_of [] = 0
first_of (k ∷ ks) = if (eqb k 0) (first_of ks) k

-- the one order of all calls on records: 1, 2, 3 to 5, 6, 7, 10, 11, 14 by a family or by a call that is lacked, 12, 13; each is its number where it applies, else 0
abbrev pub in_order : (one two bytes six seven ten eleven family lack twelve thirteen : ℕ) → ℕ
in_order one two bytes six seven ten eleven family lack twelve thirteen =
    first_of (one ∷ two ∷ bytes ∷ six ∷ seven ∷ ten ∷ eleven ∷ family ∷ lack ∷ twelve ∷ thirteen ∷ [])

-- 3 to 5, of an access
abbrev pub size_refusal : ℕ → ℕ → ℕ → ℕ
size_refusal c sent room = first_of (clocks_refusal c ∷ sent_refusal c sent ∷ room_refusal c room ∷ [])
