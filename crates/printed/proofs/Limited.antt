-- Scripts by their length, and runs by their room.
-- Assumes nothing.
use Rattle.ground.proofs.Names.{ℕ, ◌+◌, ◌*◌, ◌<◌, ◌≤◌, arith, Bool, true, false, List, ◌++◌, ◌≡◌, refl, eqb, ltb, length, take, drop, take_at, drop_at, lt-ltb, le-ltb, if}
use Rattle.printed.specs.Lines.{refusal_line}
use Rattle.printed.specs.Format.{items}
use Rattle.printed.specs.Script.{items_printed, printed}
use Rattle.printed.specs.Run.{room_for, ran_of, out_after}
use Rattle.printed.specs.Limits.{Limits}
use Rattle.printed.specs.Ran.{Ran}

too_long : (s : List ℕ) → 65536 < length s → printed s ≡ refusal_line 9
unfolding printed
too_long s h = rw (lt-ltb 65536 (length s) h)

not_too_long : (s : List ℕ) → length s ≤ 65536 → printed s ≡ items_printed (items s)
unfolding printed
not_too_long s h = simp (le-ltb 65536 (length s) h)

no_room : (s out : List ℕ) → length s ≤ 65536 → length out < 16 + 4 * length s
    → (ran_of s out ≡ record { number = 5; length = 0 }) × (out_after s out ≡ out)
no_room s out h l = (
  rw (le-ltb 65536 (length s) h, lt-ltb (length out) (16 + 4 * length s) l),
  rw (le-ltb 65536 (length s) h, lt-ltb (length out) (16 + 4 * length s) l),
)

room : (s out : List ℕ) → length s ≤ 65536 → 16 + 4 * length s ≤ length out → ran_of s out ≡ record { number = 0; length = length (printed s) }
room s out h l = rw (le-ltb 65536 (length s) h, le-ltb (length out) (16 + 4 * length s) l)

-- room for `R 9` suffices where the script is too long
long_room : (s : List ℕ) → 65536 < length s → room_for (length s) ≡ 4
long_room s h = rw (lt-ltb 65536 (length s) h)

no_room_too_long : (s out : List ℕ) → 65536 < length s → length out < 4 → (ran_of s out ≡ record { number = 5; length = 0 }) × (out_after s out ≡ out)
no_room_too_long s out h l =
    let t = lt-ltb (length out) (room_for (length s)) (rw (long_room s h) l) in (rw t, rw t)

room_too_long : (s out : List ℕ) → 65536 < length s → 4 ≤ length out → ran_of s out ≡ record { number = 0; length = 4 }
room_too_long s out h l = rw (too_long s h, le-ltb (length out) (room_for (length s)) (rw (long_room s h) l))

module _ (s out : List ℕ) where
  -- what is printed, and what stood in the room after it
  served_room : (ran_of s out).number ≡ 0 → out_after s out ≡ printed s ++ drop (length (printed s)) out
  served_room = go (ltb (length out) (room_for (length s)))
    where
      go : (b : Bool) → (if {A = Ran} (eqb (if b 5 0) 0) (record { number = 0; length = length (printed s) }) (record { number = 5; length = 0 })).number ≡ 0
          → if (eqb (if b 5 0) 0) (printed s ++ drop (length (printed s)) out) out ≡ printed s ++ drop (length (printed s)) out
      go true e = absurd (omega (arith, e))
      go false e = refl

  first_bytes_lem : (ran_of s out).number ≡ 0 → take (length (printed s)) (out_after s out) ≡ printed s
  first_bytes_lem e = rw (served_room e) (take_at (printed s) _ (length (printed s)) refl)

  later_bytes : (ran_of s out).number ≡ 0 → drop (length (printed s)) (out_after s out) ≡ drop (length (printed s)) out
  later_bytes e = rw (served_room e) (drop_at (printed s) _ (length (printed s)) refl)

pub limits : Limits
limits = record {
  too_long = too_long;
  not_too_long = not_too_long;
  no_room = no_room;
  no_room_too_long = no_room_too_long;
  room = room;
  room_too_long = room_too_long;
  first_bytes = first_bytes_lem;
  later_bytes = later_bytes;
}
