-- The lines of a report, one after another.
-- Assumes nothing.
use Rattle.ground.proofs.Names.{ℕ, suc, ◌+◌, ◌*◌, ◌<◌, ◌≤◌, arith, add-one, List, ◌≡◌, refl, ◌∙◌, length}
use Rattle.text.specs.Text.{decimal, newline}
use Rattle.text.specs.Written.{Written, room_after, place_after}
use Rattle.text.proofs.Room.{written, written_length, both_written_lem}
use Rattle.text.proofs.Digits.{decimal_short, one_place, two_places}
use Rattle.lit_time.specs.Report.{space, lines_of, total_line}

-- so many lines are written
pub record Lines (f : ℕ → List ℕ) (count : ℕ) (out₀ out : List ℕ) (at i : ℕ) : Type 0 where
  pub within : i ≤ count
  pub same_room : length out ≡ length out₀
  pub space : at ≤ 26 * i
  pub written : Written (lines_of i f) 0 out₀ out at

pub lines_none : (f : ℕ → List ℕ) (count : ℕ) (out : List ℕ) → Lines f count out out 0 0
unfolding lines_of
lines_none f count out = record { within = omega arith; same_room = refl; space = omega arith; written = record { bytes = refl; place = refl } }

pub lines_more : {f : ℕ → List ℕ} {count : ℕ} {out₀ out : List ℕ} {at i : ℕ} (out' : List ℕ) (at' : ℕ) → Lines f count out₀ out at i → suc i ≤ count
    → Written (f i) at out out' at' → at' ≤ at + 26 → Lines f count out₀ out' at' (i + 1)
unfolding lines_of
lines_more {f} {count} {out₀} {out} {at} {i} out' at' l h w s =
    record {
      within = omega arith;
      same_room = written_length _ _ _ _ _ w ∙ l.same_room;
      space = omega (arith, l.space);
      written = rw add-one (both_written_lem _ _ _ _ _ _ _ _ l.written w);
    }

-- a text put into room
abbrev Put : List ℕ → ℕ → List ℕ → List ℕ → ℕ → Type 0
Put text at out out' at' = (at' ≡ place_after text at out) × (out' ≡ room_after text at out)

-- the six parts of a line, which has at most 26 bytes
pub line_written : (j d v : ℕ) {o₀ o₁ o₂ o₃ o₄ o₅ o₆ : List ℕ} {a₀ a₁ a₂ a₃ a₄ a₅ a₆ : ℕ} → j < 100 → d < 10 → a₀ + 26 ≤ length o₀
    → Put (decimal j) a₀ o₀ o₁ a₁
    → Put space a₁ o₁ o₂ a₂
    → Put (decimal d) a₂ o₂ o₃ a₃
    → Put space a₃ o₃ o₄ a₄
    → Put (decimal v) a₄ o₄ o₅ a₅
    → Put newline a₅ o₅ o₆ a₆
    → Written (total_line j d v) a₀ o₀ o₆ a₆ × (a₆ ≤ a₀ + 26)
line_written j d v a b h p₁ p₂ p₃ p₄ p₅ p₆ =
    let lj = two_places j a in
    let ld : length (decimal d) ≡ 1 = rw (one_place d b) in
    let lv = decimal_short v in
    let w₁ = written p₁ (omega (arith, h, lj, ld, lv)) in
    let l₁ = written_length _ _ _ _ _ w₁ in
    let w₂ = written p₂ (omega (arith, h, lj, ld, lv, w₁.place, l₁)) in
    let l₂ = written_length _ _ _ _ _ w₂ in
    let w₃ = written p₃ (omega (arith, h, lj, ld, lv, w₁.place, l₁, w₂.place, l₂)) in
    let l₃ = written_length _ _ _ _ _ w₃ in
    let w₄ = written p₄ (omega (arith, h, lj, ld, lv, w₁.place, l₁, w₂.place, l₂, w₃.place, l₃)) in
    let l₄ = written_length _ _ _ _ _ w₄ in
    let w₅ = written p₅ (omega (arith, h, lj, ld, lv, w₁.place, l₁, w₂.place, l₂, w₃.place, l₃, w₄.place, l₄)) in
    let l₅ = written_length _ _ _ _ _ w₅ in
    let w₆ = written p₆ (omega (arith, h, lj, ld, lv, w₁.place, l₁, w₂.place, l₂, w₃.place, l₃, w₄.place, l₄, w₅.place, l₅)) in (
      both_written_lem _ _ _ _ _ _ _ _ (both_written_lem _ _ _ _ _ _ _ _ (both_written_lem _ _ _ _ _ _ _ _ (both_written_lem _ _ _ _ _ _ _ _ (both_written_lem _ _ _ _ _ _ _ _ w₁ w₂) w₃) w₄) w₅) w₆,
      omega (arith, lj, ld, lv, w₁.place, w₂.place, w₃.place, w₄.place, w₅.place, w₆.place),
    )
