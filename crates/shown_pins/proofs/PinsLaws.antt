-- The pins of a cathode, eight at a time, are those of the definition.
-- Assumes nothing.
use Rattle.ground.proofs.Names.{ℕ, ◌+◌, ◌-◌, ◌^◌, ◌<◌, true, false, List, ◌≡◌, ap, ◌∙◌, get_or, tabulate, tabulate_ext}
use Rattle.device.specs.declared.Device.{Device}
use Rattle.wiring.specs.Table.{entry_at}
use Rattle.wiring.specs.PackedRows.{packed_row}
use Rattle.wiring.specs.declared.Display.{Display}
use Rattle.wiring.specs.declared.PackedRow.{PackedRow}
use Rattle.brightness.specs.Dark.{dark}
use Rattle.display.specs.Cathode.{display_of, shown_byte}
use Rattle.display.specs.Pins.{pin_code, pin_at}
use Rattle.display.specs.ByTable.{lit_segments, pin_by, table_pin}
use Rattle.display.proofs.Wires.{pin_by_pin}
use Rattle.shown_pins.specs.PackedPins.{pins_by}
use Rattle.shown_pins.proofs.Packing.{row_pin}

module _ (x : Device) (d : ℕ) (font14 font16 : List ℕ)
    (first_byte : shown_byte x d < 256)
    (second-byte : shown_byte x (d + 8) < 256)
    (words14 : (i : ℕ) → get_or font14 i 0 < 65536)
    (words16 : (i : ℕ) → get_or font16 i 0 < 65536)
    (hd : d < 8) where
  abbrev k : Display
  k = display_of x d

  -- the pins of a cathode that is not dark
  pub pins_lit : {segments : ℕ} {r : Display} {row : PackedRow} → segments < 2 ^ 64 → dark x d ≡ false → r ≡ k → segments ≡ lit_segments x d font14 font16
      → row ≡ packed_row r d
      → pins_by (2 ^ 64 - 1 - segments) row ≡ tabulate 19 (λ p. pin_code (pin_at x d font14 font16 p))
  pins_lit {segments} hs bright e es er =
      rw (er, e) (tabulate_ext 19 _ _ (λ p hp. row_pin k d p segments hd hp hs ∙ ap pin_code (read p ∙ pin_by_pin x d font14 font16 p first_byte second-byte words14 words16 hd hp)))
    where
      read : (p : ℕ) → pin_by segments (entry_at k d p) ≡ table_pin x d font14 font16 p
      read p = rw (es, bright)

-- the pins of a dark cathode
pub pins_dark : (x : Device) (d : ℕ) (font14 font16 : List ℕ) → dark x d ≡ true → tabulate 19 (λ p. 0) ≡ tabulate 19 (λ p. pin_code (pin_at x d font14 font16 p))
pins_dark x d font14 font16 e = simp e
