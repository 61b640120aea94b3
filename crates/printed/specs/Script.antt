-- Believed: document 01, "Script program", and document 02, requests 1 and 7: what the panel program prints for a script.
-- Assumes nothing.
use Rattle.std.specs.Prelude.{ℕ, List, [], ◌∷◌, ◌++◌, eqb, ltb, length}
use Rattle.ground.specs.Choice.{if}
use Rattle.refusals.specs.Refusals.{chain_refusal}
use Rattle.device.specs.PowerUp.{fresh_chain}
use Rattle.device.specs.declared.Device.{Device}
use Rattle.calls.specs.Calls.{Call, access, give, ask, ask_chain}
use Rattle.calls.specs.Served.{record_of}
use Rattle.calls.specs.Outcome.{number, after, reply}
use Rattle.printed.specs.Lines.{chain_line, refusal_line, line_for}
use Rattle.printed.specs.Format.{Item, chain, call, malformed, items}

-- the answer mark of the driver that a call names; an access names none, nor does what the chain is asked
abbrev pub named_mark : Call → List Device → ℕ
named_mark (access c sent room) ds = 0
named_mark (give j s) ds = (record_of ds j).answer_mark
named_mark (ask j q) ds = (record_of ds j).answer_mark
named_mark (ask_chain q) ds = 0

-- what a call on a chain prints
abbrev pub call_line : Call → List Device → List ℕ
call_line q ds = line_for q (number q ds) (reply q ds) (named_mark q ds)

-- what records print on a chain; a malformed record, and a chain record that isn't first, are refused with 8, and the run stops
unfoldable pub run_lines : List Item → List Device → List ℕ
run_lines [] ds = []
run_lines (chain n ∷ is) ds = refusal_line 8
run_lines (call q ∷ is) ds = call_line q ds ++ run_lines is (after q ds)
run_lines (malformed ∷ is) ds = refusal_line 8

-- the chain of a script that doesn't begin with a chain record, or whose first record is refused with 8: 4 by document 02, request 7
abbrev pub assumed_chain : ℕ
assumed_chain = 4

-- the chain's length
abbrev pub chain_in : List Item → ℕ
chain_in [] = assumed_chain
chain_in (chain n ∷ is) = n
chain_in (call q ∷ is) = assumed_chain
chain_in (malformed ∷ is) = assumed_chain

-- the records after a chain record that is first
abbrev pub others_in : List Item → List Item
others_in [] = []
others_in (chain n ∷ is) = is
others_in (call q ∷ is) = call q ∷ is
others_in (malformed ∷ is) = malformed ∷ is

-- `chain n` and what the other records print; a chain record refused with 1 precludes the first line, and the run stops
abbrev pub items_printed : List Item → List ℕ
items_printed is =
    if (eqb (chain_refusal (chain_in is)) 0)
    (chain_line (chain_in is) ++ run_lines (others_in is) (fresh_chain (chain_in is)))
    (refusal_line (chain_refusal (chain_in is)))

-- the longest script
abbrev pub longest : ℕ
longest = 65536

-- all that is printed; length (9) is tested before anything else, and precludes the first line
unfoldable pub printed : List ℕ → List ℕ
printed s = if (ltb longest (length s)) (refusal_line 9) (items_printed (items s))
