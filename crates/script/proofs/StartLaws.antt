-- What a script prints in room that suffices.
-- Assumes nothing.
use Rattle.std.specs.Prelude.{Ok}
use Rattle.ground.proofs.Names.{ℕ, ◌≤◌, ◌<◌, arith, List, ◌≡◌, length, lt-ltb, le-ltb}
use Rattle.text.specs.Written.{Written}
use Rattle.text.proofs.Room.{written_length, whole_written}
use Rattle.printed.specs.Lines.{refusal_line}
use Rattle.printed.specs.Format.{items}
use Rattle.printed.specs.Script.{items_printed, longest, printed}
use Rattle.printed.specs.Run.{room_for, ran_of, ran_by, out_after}

module _ (s out : List ℕ) where
  -- room that suffices, and what is printed in it
  pub ran : (out' : List ℕ) (end : ℕ) → room_for (length s) ≤ length out → Written (printed s) 0 out out' end → end ≤ length out
      → (ran_by (Ok end) ≡ ran_of s out) × (out' ≡ out_after s out) × (end ≤ length out')
  ran out' end h w l =
      let e : end ≡ length (printed s) = omega (arith, w.place) in
      (rw (le-ltb _ _ h, e), rw (le-ltb _ _ h) (whole_written _ _ _ _ w l), omega (arith, written_length _ _ _ _ _ w))

-- a script that is too long, and one that isn't
pub printed_long : (s : List ℕ) → longest < length s → printed s ≡ refusal_line 9
unfolding printed
printed_long s h = rw (lt-ltb _ _ h)

pub printed_items : (s : List ℕ) → length s ≤ longest → printed s ≡ items_printed (items s)
unfolding printed
printed_items s h = rw (le-ltb _ _ h)
