-- Believed: document 01, number 9, and a run without room: what scripts of every length do.
-- Assumes nothing.
use Rattle.std.specs.Prelude.{ℕ, ◌+◌, ◌*◌, ◌<◌, ◌≤◌, List, ◌≡◌, length, take, drop}
use Rattle.printed.specs.Lines.{refusal_line}
use Rattle.printed.specs.Format.{items}
use Rattle.printed.specs.Script.{items_printed, printed}
use Rattle.printed.specs.Run.{ran_of, out_after}

-- by a script's length, and by the room
pub record Limits : Type 0 where
  -- 9: longer than 65,536 bytes
  pub too_long : (s : List ℕ) → 65536 < length s → printed s ≡ refusal_line 9
  pub not_too_long : (s : List ℕ) → length s ≤ 65536 → printed s ≡ items_printed (items s)
  -- 5: room fewer than what is printed may need; nothing is written
  pub no_room : (s out : List ℕ) → length s ≤ 65536 → length out < 16 + 4 * length s
      → (ran_of s out ≡ record { number = 5; length = 0 }) × (out_after s out ≡ out)
  pub no_room_too_long : (s out : List ℕ) → 65536 < length s → length out < 4 → (ran_of s out ≡ record { number = 5; length = 0 }) × (out_after s out ≡ out)
  -- else 0, and how many bytes are printed: those of `R 9` where it is too long
  pub room : (s out : List ℕ) → length s ≤ 65536 → 16 + 4 * length s ≤ length out → ran_of s out ≡ record { number = 0; length = length (printed s) }
  pub room_too_long : (s out : List ℕ) → 65536 < length s → 4 ≤ length out → ran_of s out ≡ record { number = 0; length = 4 }
  -- they stand first, and the room after them is as it was
  pub first_bytes : (s out : List ℕ) → (ran_of s out).number ≡ 0 → take (length (printed s)) (out_after s out) ≡ printed s
  pub later_bytes : (s out : List ℕ) → (ran_of s out).number ≡ 0 → drop (length (printed s)) (out_after s out) ≡ drop (length (printed s)) out
