-- One record of a run: its line, and what the others then print.
-- Assumes nothing.
use Rattle.ground.proofs.Names.{ℕ, ◌+◌, ◌*◌, ◌≤◌, arith, List, [], ◌∷◌, ◌++◌, ◌≡◌, refl, ◌∙◌, length, length-replicate}
use Rattle.device.specs.declared.Device.{Device}
use Rattle.device.specs.PowerUp.{fresh_chain}
use Rattle.row.specs.Row.{fresh, records, done_on}
use Rattle.row.specs.declared.Row.{Row}
use Rattle.text.specs.Written.{Written}
use Rattle.text.proofs.Room.{written_length, Left, all_written, part_written}
use Rattle.printed.specs.Lines.{refusal_line}
use Rattle.printed.specs.Format.{call_of, Item, chain, call, malformed, items_after, items}
use Rattle.printed.specs.Script.{run_lines}
use Rattle.printed.proofs.Records.{items_first}
use Rattle.script_records.specs.Kinds.{kind_number}
use Rattle.script_records.specs.Parts.{IsCall, Stops}
use Rattle.script_records.specs.declared.format.Kind.{Kind}
use Rattle.script_records.proofs.RowLaws.{records_after, row_wide, fresh_records}
use Rattle.script.specs.Progress.{line_on, Obeyed}
use Rattle.script.specs.declared.Progress.{Progress}

-- some records that don't begin with a call are refused with 8
stopped_lines : (i : Item) (is : List Item) (ds : List Device) → Stops (i ∷ is) → run_lines (i ∷ is) ds ≡ refusal_line 8
unfolding run_lines
stopped_lines (chain n) is ds h = refl
stopped_lines (call q) is ds h = absurd h
stopped_lines malformed is ds h = refl

-- none print nothing
none_printed : (rest : List ℕ) (ds : List Device) → length rest ≡ 0 → run_lines (items rest) ds ≡ []
unfolding items_after run_lines
none_printed [] ds z = refl
none_printed (b ∷ s) ds z = absurd (omega arith)

-- a call prints its line, and the rest follows on what it leaves
call_lines : {s : List ℕ} {kind : Kind} {body rest : List ℕ} (row row' : Row) → row.n ≤ length row.devices → IsCall s kind body rest
    → row' ≡ (done_on row (call_of (kind_number kind) body)).row
    → run_lines (items s) (records row) ≡ line_on row (call_of (kind_number kind) body) ++ run_lines (items rest) (records row')
unfolding run_lines
call_lines {kind = kind} {body = body} row row' wide c e = rw (c.items, e, records_after row wide (call_of (kind_number kind) body))

-- where a run stands: what is left to print is what the records that are left print on the row as it is
pub record Running (all : List ℕ) (n first : ℕ) (out₀ out : List ℕ) (row : Row) (rest : List ℕ) (at : ℕ) : Type 0 where
  pub same_room : length out ≡ length out₀
  pub space : at + 4 * length rest ≤ length out₀
  pub wide : row.n ≤ length row.devices
  pub left : Left (run_lines (items all) (fresh_chain n)) first out₀ (run_lines (items rest) (records row)) at out

-- before the first record
pub run_starts : (all : List ℕ) (n first : ℕ) (out : List ℕ) (row : Row) → first + 4 * length all ≤ length out
    → n ≤ 16 → row ≡ fresh n → Running all n first out out row all first
run_starts all n first out row g k e =
    record {
      same_room = refl;
      space = g;
      wide = rw e (simp length-replicate k);
      left = rw (e, fresh_records n k) (record { bytes = refl; end = refl });
    }

module _ {all : List ℕ} {n first : ℕ} {out₀ out : List ℕ} {row : Row} {rest : List ℕ} {at : ℕ} (g : Running all n first out₀ out row rest at) where
  -- the run stops where records are left that don't begin with a call
  pub stops : {out' : List ℕ} {at' : ℕ} → Stops (items rest) → (length rest ≡ 0 → ⊥)
      → Written (refusal_line 8) at out out' at' → Written (run_lines (items all) (fresh_chain n)) first out₀ out' at' × (at' ≤ length out₀)
  stops z some w =
      let e : items rest ≡ _ = items_first rest (omega arith) in
      let l : run_lines (items rest) (records row) ≡ refusal_line 8 = rw e (stopped_lines _ _ (records row) (rw e at z)) in
      (all_written _ _ _ _ _ (part_written _ _ _ (refusal_line 8) [] _ _ _ _ (rw l at g.left) w), omega (arith, g.space, w.place))

  -- it ends with them
  pub run_ends : length rest ≡ 0 → Written (run_lines (items all) (fresh_chain n)) first out₀ out at × (at ≤ length out₀)
  run_ends z = (all_written _ _ _ _ _ (rw (none_printed rest (records row) z) at g.left), omega (arith, g.space))

  -- a call is obeyed, and the run goes on behind it
  pub goes_on : {kind : Kind} {body behind : List ℕ} {out' : List ℕ} {p : Progress} → IsCall rest kind body behind
      → Obeyed row (call_of (kind_number kind) body) (5 + length body) at out out' p → Running all n first out₀ out' p.row behind p.at
  goes_on {kind} {body} {behind} {out'} {p} c o =
      let q = call_of (kind_number kind) body in
      let l : run_lines (items rest) (records row) ≡ line_on row q ++ run_lines (items behind) (records p.row) =
      call_lines row p.row g.wide c o.row_after in
      record {
        same_room = written_length _ _ _ _ _ o.line ∙ g.same_room;
        space = omega (arith, c.parts, o.short, g.space);
        wide = rw o.row_after (row_wide row g.wide q);
        left = part_written _ _ _ (line_on row q) _ _ _ _ _ (rw l at g.left) o.line;
      }
