-- The row that a run is on, as the chain of its records.
-- Assumes nothing.
use Rattle.ground.proofs.Names.{ℕ, zero, suc, ◌≤◌, arith, le_of_suc-le-suc, Bool, true, false, List, ◌∷◌, ◌++◌, ◌≡◌, refl, ap, ◌∙◌, eqb, length, take, drop, replicate, length-append, take-append-drop, length-take-le, take_at, if}
use Rattle.device.specs.PowerUp.{power_up, fresh_chain}
use Rattle.device.specs.declared.Device.{Device}
use Rattle.calls.specs.Calls.{Question, Call, ask}
use Rattle.calls.specs.Outcome.{number, after}
use Rattle.calls.proofs.Records.{length_after}
use Rattle.row.specs.Row.{fresh, records, done_on}
use Rattle.row.specs.declared.Row.{Row}

-- a question leaves the row as it is
pub ask_leaves : (r : Row) (j : ℕ) (q : Question) → (done_on r (ask j q)).row ≡ r
unfolding after
ask_leaves r j q = go (eqb (number (ask j q) (records r)) 0)
  where
    go : (b : Bool) → ◌≡◌ {A = Row} (record { n = r.n; devices = if b (records r) (records r) ++ drop r.n r.devices }) r
    go true = rw take-append-drop
    go false = rw take-append-drop

module _ (r : Row) (small : r.n ≤ length r.devices) where
  length_records : length (records r) ≡ r.n
  length_records = length-take-le r.n r.devices small

  -- the chain after it
  pub records_after : (q : Call) → records (done_on r q).row ≡ after q (records r)
  records_after q = take_at (after q (records r)) (drop r.n r.devices) r.n (length_after q (records r) ∙ length_records)

  -- and it has as many records as before
  pub row_wide : (q : Call) → (done_on r q).row.n ≤ length (done_on r q).row.devices
  row_wide q =
      let l : length (after q (records r)) ≡ r.n = length_after q (records r) ∙ length_records in
      rw (length-append, l) (omega arith)

-- a row at power-up
pub fresh_records : (n : ℕ) → n ≤ 16 → records (fresh n) ≡ fresh_chain n
fresh_records n h = go n 16 h
  where
    go : (n m : ℕ) → n ≤ m → take n (replicate m power_up) ≡ replicate n power_up
    go zero m h = refl
    go (suc n) zero h = absurd (omega arith)
    go (suc n) (suc m) h = ap (λ (ds : List Device). power_up ∷ ds) (go n m (le_of_suc-le-suc h))
