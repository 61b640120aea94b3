-- A packed row holds the entry of each pin, by one test that is computed over the 24 rows.
-- Assumes nothing.
use Rattle.ground.proofs.Names.{ℕ, ◌<◌, Bool, true, ◌&&◌, ◌≡◌, refl, eqb, eqb-true, all, all_at, and_left, and_right}
use Rattle.wiring.specs.PackedRows.{packed_pins, packed_row, six_pins, first_pins}
use Rattle.wiring.specs.declared.Display.{Display}
use Rattle.wiring.specs.declared.Display.TheVariants.{Sixteen, Fourteen, SevenPair}
use Rattle.wiring.specs.declared.PackedPins.{PackedPins}
use Rattle.wiring.specs.declared.PackedRow.{PackedRow}

-- eight pins, word by word
unfoldable same : PackedPins → PackedPins → Bool
same a b = eqb a.lit b.lit && (eqb a.low b.low && (eqb a.high b.high && eqb a.point b.point))

pins : {l l' m m' h h' p p' : ℕ} → (l ≡ l') × (m ≡ m') × (h ≡ h') × (p ≡ p')
    → ◌≡◌ {A = PackedPins} (record { lit = l; low = m; high = h; point = p }) (record { lit = l'; low = m'; high = h'; point = p' })
pins (e, f, g, i) = rw (e, f, g, i)

same_pins : (a b : PackedPins) → same a b ≡ true → a ≡ b
unfolding same
same_pins a b t = pins (search (eqb-true, and_left, and_right))

module _ (k : Display) (d : ℕ) where
  abbrev row : Bool
  row = same (first_pins (six_pins k) d) (packed_pins k d 0) && (same (packed_pins k 0 8) (packed_pins k d 8) && same (packed_pins k 0 16) (packed_pins k d 16))

tested : (k : Display) → all (row k) 8 ≡ true
unfolding same
tested Sixteen = refl
tested Fourteen = refl
tested SevenPair = refl

-- the row of a cathode
pub packed_row_lem : (k : Display) (d : ℕ) → d < 8
    → ◌≡◌ {A = PackedRow} (record { first = first_pins (six_pins k) d; middle = packed_pins k 0 8; last = packed_pins k 0 16 }) (packed_row k d)
packed_row_lem k d h =
    let t = all_at (row k) 8 (tested k) d h in
    rw (
      same_pins (first_pins (six_pins k) d) (packed_pins k d 0) (search and_left),
      same_pins (packed_pins k 0 8) (packed_pins k d 8) (search (and_left, and_right)),
      same_pins (packed_pins k 0 16) (packed_pins k d 16) (search and_right),
    )
