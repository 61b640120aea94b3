-- Text written into room, one text after another.
-- Assumes nothing.
use Rattle.ground.proofs.Names.{ℕ, suc, ◌+◌, ◌≤◌, ◌<◌, zero-add, add-zero, add-suc, suc-add, arith, List, [], ◌∷◌, ◌++◌, ◌≡◌, sym, ◌∙◌, length, set, take, drop, drop-drop, length-append, sets, length-sets, sets-eq, append_assoc, le-leb, lt-leb}
use borrow.Rule.Slice.PartMut.{put_mid}
use Rattle.text.specs.Written.{Written, room_after, place_after}

-- a text that fits is written
pub written : {text : List ℕ} {at : ℕ} {out out' : List ℕ} {at' : ℕ} → (at' ≡ place_after text at out) × (out' ≡ room_after text at out)
    → at + length text ≤ length out → Written text at out out' at'
unfolding room_after place_after
written {text} {at} {out} p h = let t = le-leb (at + length text) (length out) h in record { bytes = rw t at p.1; place = rw t at p.0 }

-- a text copied over a part of the room
pub put_place : (text : List ℕ) (at : ℕ) (out : List ℕ) → at + length text ≤ length out → at + length text ≡ place_after text at out
unfolding place_after
put_place text at out h = rw (le-leb (at + length text) (length out) h)

pub put_room : (text : List ℕ) (at : ℕ) (out part : List ℕ) (n : ℕ) → at + length text ≤ length out → n ≡ length text → part ≡ text
    → put_mid at n out part ≡ room_after text at out
unfolding room_after
put_room text at out part n h l e =
    rw (le-leb (at + length text) (length out) h, e, l, drop-drop (length text) at out)
    (sym (sets-eq text out at h ∙ append_assoc (take at out) text (drop (at + length text) out)))

-- one that doesn't fit isn't
pub left_out : (text : List ℕ) (at : ℕ) (out : List ℕ) → length out < at + length text → (at ≡ place_after text at out) × (out ≡ room_after text at out)
unfolding room_after place_after
left_out text at out h = let t = lt-leb (at + length text) (length out) h in (rw t, rw t)

-- a text in two parts is its first part, and then its second after it
pub sets_append : (p q o : List ℕ) (at : ℕ) → sets o at (p ++ q) ≡ sets (sets o at p) (at + length p) q
sets_append [] q o at = rw add-zero
sets_append (b ∷ p) q o at = rw (add-suc, ← suc-add) (sets_append p q (set o at b) (suc at))

-- the room keeps its length
pub written_length : (text out out' : List ℕ) (at at' : ℕ) → Written text at out out' at' → length out' ≡ length out
written_length text out out' at at' w = rw w.bytes (length-sets out at text)

-- two texts, one after the other
pub both_written_lem : (p q out out' out'' : List ℕ) (at at' at'' : ℕ) → Written p at out out' at' → Written q at' out' out'' at'' → Written (p ++ q) at out out'' at''
both_written_lem p q out out' out'' at at' at'' v w =
    record { bytes = rw (w.bytes, v.bytes, v.place, ← sets_append p q out at); place = omega (arith, v.place, w.place, length-append p q) }

-- a text at the start of room that has space for it
pub whole_written : (text out out' : List ℕ) (at' : ℕ) → Written text 0 out out' at' → at' ≤ length out → out' ≡ text ++ drop (length text) out
whole_written text out out' at' w h = w.bytes ∙ sets-eq text out 0 (omega (arith, w.place)) ∙ rw zero-add

-- what is still to be written, and the place where it will end
pub record Left (text : List ℕ) (at : ℕ) (out : List ℕ) (text' : List ℕ) (at' : ℕ) (out' : List ℕ) : Type 0 where
  pub bytes : sets out' at' text' ≡ sets out at text
  pub end : at' + length text' ≡ at + length text

-- nothing is left
pub all_written : (text : List ℕ) (at : ℕ) (out : List ℕ) (at' : ℕ) (out' : List ℕ) → Left text at out [] at' out' → Written text at out out' at'
all_written text at out at' out' l = record { bytes = l.bytes; place = omega arith }

-- a first part is written, and the rest is left
pub part_written : (text : List ℕ) (at : ℕ) (out p q : List ℕ) (at' : ℕ) (out' out'' : List ℕ) (at'' : ℕ)
    → Left text at out (p ++ q) at' out' → Written p at' out' out'' at'' → Left text at out q at'' out''
part_written text at out p q at' out' out'' at'' l w =
    record {
      bytes = rw (w.bytes, w.place, ← sets_append p q out' at') l.bytes;
      end = omega (arith, l.end, length-append p q);
    }
