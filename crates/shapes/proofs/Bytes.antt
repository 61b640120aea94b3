-- A byte on the two-wire bus that reaches an open transfer: its part is one of the row, so it doesn't matter what a read past the row's end gives.
--     part_there         the part's place
--     part_outcome       the outcome, by the part's record
-- Assumes nothing.
use Rattle.std.specs.Prelude.{Some}
use Rattle.ground.proofs.Names.{ℕ, ◌-◌, ◌<◌, arith, List, ◌≡◌, length, get_or, set}
use Rattle.device.specs.PowerUp.{power_up}
use Rattle.device.specs.declared.Device.{Device}
use Rattle.bus.specs.declared.Bus.{Bus}
use Rattle.bus.specs.States.{use_at}
use Rattle.bus.specs.BusOutcome.{bus_outcome}
use Rattle.pass.specs.Found.{row_refusal}
use Rattle.transfers.specs.Transfers.{named, part_open, byte_open, byte_left, byte_call}
use Rattle.transfers.specs.declared.Byte.{Byte}
use Rattle.transfers.proofs.BusLaws.{answered_to, reached, open_outcome}
use Rattle.lent.proofs.Passed.{default}

module _ (ds : List Device) (b : Bus) (σ : List ℕ) {part : ℕ} (h : Some part ≡ named (part_open (row_refusal ds) (length ds) b σ)) where
  pub part_there : part - 1 < length ds
  part_there = let r = reached ds b σ h in omega (arith, r.some, r.there, r.same)

  pub part_outcome : (y : Byte) (d : Device)
      → bus_outcome σ (byte_call y) b ds ≡ answered_to (byte_open y (get_or ds (part - 1) d) b) (set ds (part - 1) (byte_left y (use_at b.phase) (get_or ds (part - 1) d)))
  part_outcome y d = let r = reached ds b σ h in rw (default d power_up ds (part - 1) part_there, r.same) (open_outcome ds b σ y r)
