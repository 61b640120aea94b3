-- One record of a run: what it adds, and what the others then add.
-- Assumes nothing.
use Rattle.ground.proofs.Names.{ℕ, ◌+◌, ◌*◌, ◌/◌, ◌%◌, ◌<◌, ◌≤◌, arith, List, [], ◌∷◌, ◌≡◌, refl, ◌∙◌, length, get_or, length-replicate}
use Rattle.device.specs.PowerUp.{fresh_chain}
use Rattle.device.specs.declared.Device.{Device}
use Rattle.calls.specs.Outcome.{after}
use Rattle.row.specs.Row.{fresh, records}
use Rattle.row.specs.declared.Row.{Row}
use Rattle.printed.specs.Format.{call_of, Item, chain, call, malformed, items}
use Rattle.script_records.specs.Kinds.{kind_number}
use Rattle.script_records.specs.Parts.{IsCall, Stops}
use Rattle.script_records.specs.declared.format.Kind.{Kind}
use Rattle.script_records.proofs.RowLaws.{records_after, row_wide, fresh_records}
use Rattle.lit_time.specs.ScriptTime.{run_time}
use Rattle.lit_time_calls.specs.Progress.{Totals, time_of, added_by, Space, Ready, Counted}
use Rattle.lit_time.proofs.Fitting.{Small, rest_fits}

-- records that don't begin with a call add nothing
stopped_time : (is : List Item) (ds : List Device) (j d : ℕ) → Stops is → run_time is ds j d ≡ 0
unfolding run_time
stopped_time [] ds j d h = refl
stopped_time (chain n ∷ is) ds j d h = refl
stopped_time (call q ∷ is) ds j d h = absurd h
stopped_time (malformed ∷ is) ds j d h = refl

-- where a run stands: the totals so far, and what the records that are left add to them on the row as it is, are those of the whole run
pub record Running (all : List ℕ) (n : ℕ) (t₀ t : List ℕ) (row : Row) (rest : List ℕ) : Type 0 where
  pub size : row.n ≡ n
  pub wide : row.n ≤ length row.devices
  pub same_room : length t ≡ length t₀
  pub left : (i : ℕ) → i < 8 * n → get_or t i 0 + time_of rest (records row) i ≡ time_of all (fresh_chain n) i
  pub others : (i : ℕ) → 8 * n ≤ i → get_or t i 0 ≡ get_or t₀ i 0

pub run_starts : (all : List ℕ) (n : ℕ) (t : List ℕ) (row : Row) → n ≤ 16 → row ≡ fresh n
    → ((i : ℕ) → i < 8 * n → get_or t i 0 ≡ 0) → Running all n t t row all
run_starts all n t row k e z =
    record {
      size = rw e;
      wide = rw e (simp length-replicate k);
      same_room = refl;
      left = λ i l. rw (z i l, e, fresh_records n k) (omega arith);
      others = λ i l. refl;
    }

module _ {all : List ℕ} {n : ℕ} {t₀ t : List ℕ} {row : Row} {rest : List ℕ} (g : Running all n t₀ t row rest) where
  -- the run ends where no call is left
  pub run_ends : Stops (items rest) → Totals (8 * n) (time_of all (fresh_chain n)) t₀ t
  run_ends z =
      record { same_room = g.same_room; total = λ i l. omega (arith, g.left i l, stopped_time (items rest) (records row) (i / 8 + 1) (i % 8) z); rest = g.others }

  -- the row is ready for the next record
  pub ready : n ≤ 16 → 8 * n ≤ length t₀ → Ready row t
  ready k h =
      record { most = omega (arith, g.size); wide = g.wide; room = omega (arith, g.size, g.same_room) }

  module _ {kind : Kind} {body behind : List ℕ} (c : IsCall rest kind body behind) where
    -- a record's times, and those of the others
    next_time : (i : ℕ) → time_of rest (records row) i ≡ added_by row (call_of (kind_number kind) body) i + time_of behind (after (call_of (kind_number kind) body) (records row)) i
    unfolding run_time
    next_time i = rw c.items

    -- they fit
    pub space : length all ≤ 65536 → Small all → Space row (call_of (kind_number kind) body) t
    space l m i b =
        omega (arith, g.left i (omega (arith, g.size)), next_time i, rest_fits all 0 (fresh_chain n) (i / 8 + 1) (i % 8) l m)

    -- the run goes on behind it
    pub goes_on : {t' : List ℕ} {row' : Row} → Counted row (call_of (kind_number kind) body) t t' row' → Running all n t₀ t' row' behind
    goes_on {t'} {row'} o =
        let q = call_of (kind_number kind) body in
        record {
          size = rw o.row_after g.size;
          wide = rw o.row_after (row_wide row g.wide q);
          same_room = o.totals.same_room ∙ g.same_room;
          left = λ i l. rw (o.row_after, records_after row g.wide q) (omega (arith, g.left i l, next_time i, o.totals.total i (omega (arith, g.size))));
          others = λ i l. o.totals.rest i (omega (arith, g.size)) ∙ g.others i l;
        }
