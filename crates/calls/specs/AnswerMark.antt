-- Believed: document 02, request 1: every accepted access decides each driver's answer mark afresh, and nothing else touches it.
-- Assumes nothing.
use Rattle.std.specs.Prelude.{ℕ, ◌≤◌, Bool, true, false, not, ◌&&◌, List, [], ◌∷◌, ◌++◌, map, ◌≡◌, eqb, length}
use Rattle.ground.specs.Choice.{if, bit}
use Rattle.device.specs.declared.Device.{Device}
use Rattle.calls.specs.Calls.{Step, Question, ChainQuestion, Call, access, give, ask, ask_chain}
use Rattle.calls.specs.Served.{record_of}
use Rattle.calls.specs.Outcome.{number, after}
use Rattle.calls.specs.CallLists.{after_all}
use Rattle.calls.specs.NextAccess.{word_taken}

-- the answer marks, driver 1's first
abbrev pub marks : List Device → List ℕ
marks ds = map (λ (d : Device). d.answer_mark) ds

-- an accepted access
abbrev pub decides : Call → List Device → Bool
decides (access c sent room) ds = eqb (number (access c sent room) ds) 0
decides (give j s) ds = false
decides (ask j q) ds = false
decides (ask_chain q) ds = false

-- a list of calls in which there is none
unfoldable pub none_decides : List Call → List Device → Bool
none_decides [] ds = true
none_decides (q ∷ qs) ds = not (decides q ds) && none_decides qs (after q ds)

-- by any call on any chain, and by any list of calls
pub record AnswerMark : Type 0 where
  -- after an accepted access, of 0 clocks too, driver i's mark is D15 of the word that it took
  pub by_access : (ds : List Device) (c : ℕ) (sent room : List ℕ) (i : ℕ) → 1 ≤ i → i ≤ length ds
      → number (access c sent room) ds ≡ 0
      → (record_of (after (access c sent room) ds) i).answer_mark ≡ if (bit 15 (word_taken ds c sent i)) 1 0
  -- a scan, pin levels, clocks and a question leave every mark
  pub by_step : (ds : List Device) (j : ℕ) (s : Step) → marks (after (give j s) ds) ≡ marks ds
  pub by_question : (ds : List Device) (j : ℕ) (q : Question) → marks (after (ask j q) ds) ≡ marks ds
  pub by_chain_question : (ds : List Device) (q : ChainQuestion) → marks (after (ask_chain q) ds) ≡ marks ds
  -- and so does a refused call of any kind
  pub by_refused : (ds : List Device) (q : Call) → (number q ds ≡ 0 → ⊥) → marks (after q ds) ≡ marks ds
  -- and every list of such calls
  pub by_list : (ds : List Device) (qs : List Call) → none_decides qs ds ≡ true → marks (after_all qs ds) ≡ marks ds
  -- so after any list the last accepted access in it has decided driver i's mark
  pub last_access : (ds : List Device) (qs rs : List Call) (c : ℕ) (sent room : List ℕ) (i : ℕ) → 1 ≤ i → i ≤ length ds
      → number (access c sent room) (after_all qs ds) ≡ 0
      → none_decides rs (after (access c sent room) (after_all qs ds)) ≡ true
      → (record_of (after_all (qs ++ access c sent room ∷ rs) ds) i).answer_mark ≡ if (bit 15 (word_taken (after_all qs ds) c sent i)) 1 0
