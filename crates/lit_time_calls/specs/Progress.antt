-- Auxiliary: the parts of a run: what the functions behind it leave. Nothing here is needed to read what the totals are.
-- Assumes nothing.
use Rattle.std.specs.Prelude.{ℕ, ◌+◌, ◌*◌, ◌/◌, ◌%◌, ◌^◌, ◌<◌, ◌≤◌, List, Result, Ok, Err, ◌≡◌, length, get_or}
use Rattle.refusals.specs.Numbers.{number_by}
use Rattle.refusals.specs.declared.Refusal.{Refusal}
use Rattle.device.specs.declared.Device.{Device}
use Rattle.calls.specs.Calls.{Call}
use Rattle.row.specs.Row.{records, done_on}
use Rattle.row.specs.declared.Row.{Row}
use Rattle.printed.specs.Format.{items}
use Rattle.lit_time.specs.ScriptTime.{call_time, run_time}
use Rattle.lit_time.specs.declared.LitTimeAnswer.{LitTimeAnswer}

-- w totals from a place on, each with f added
pub record Added (w : ℕ) (f : ℕ → ℕ) (at : ℕ) (t t' : List ℕ) : Type 0 where
  pub same_room : length t' ≡ length t
  pub within : (d : ℕ) → d < w → get_or t' (at + d) 0 ≡ get_or t (at + d) 0 + f d
  pub below : (i : ℕ) → i < at → get_or t' i 0 ≡ get_or t i 0
  pub above : (i : ℕ) → at + w ≤ i → get_or t' i 0 ≡ get_or t i 0

-- the first m totals are f, and the others as they were
pub record Totals (m : ℕ) (f : ℕ → ℕ) (t t' : List ℕ) : Type 0 where
  pub same_room : length t' ≡ length t
  pub total : (i : ℕ) → i < m → get_or t' i 0 ≡ f i
  pub rest : (i : ℕ) → m ≤ i → get_or t' i 0 ≡ get_or t i 0

-- what records add to total i
abbrev pub time_of : List ℕ → List Device → ℕ → ℕ
time_of records ds i = run_time (items records) ds (i / 8 + 1) (i % 8)

-- what a call adds to total i of a row
abbrev pub added_by : Row → Call → ℕ → ℕ
added_by r q i = call_time q (records r) (i / 8 + 1) (i % 8)

-- a call's times fit beside the totals so far
abbrev pub Space : Row → Call → List ℕ → Type 0
Space r q t = (i : ℕ) → i < 8 * r.n → get_or t i 0 + added_by r q i < 2 ^ 64

-- a row of a chain, and room for its totals
pub record Ready (r : Row) (t : List ℕ) : Type 0 where
  pub most : r.n ≤ 16
  pub wide : r.n ≤ length r.devices
  pub room : 8 * r.n ≤ length t

-- a call on a row, and its times added
pub record Counted (r : Row) (q : Call) (t t' : List ℕ) (r' : Row) : Type 0 where
  pub row_after : r' ≡ (done_on r q).row
  pub totals : Totals (8 * r.n) (λ i. get_or t i 0 + added_by r q i) t t'

-- an answer by how many drivers there are, or why there is none
abbrev pub answer_by : Result ℕ Refusal → LitTimeAnswer
answer_by (Ok n) = record { number = 0; drivers = n }
answer_by (Err refusal) = record { number = number_by refusal; drivers = 0 }
