-- Auxiliary: the record at the start of some bytes, in its parts.
-- Assumes nothing.
use Rattle.std.specs.Prelude.{ℕ, ◌+◌, true, ⊤, List, [], ◌∷◌, Option, Some, None, ◌≡◌, length, drop}
use Rattle.printed.specs.Format.{kind_of, size_of, body_of, length_fits, well_formed, call_of, Item, chain, call, malformed, items}
use Rattle.script_records.specs.Kinds.{kind_number}
use Rattle.script_records.specs.declared.format.Kind.{Kind}
use Rattle.script_records.specs.declared.format.Record.{Record}

-- the record's length, 0 where there is none
abbrev pub size_by : Option Record → ℕ
size_by None = 0
size_by (Some r) = 5 + length r.body.now

-- its kind, its body, and what stands behind it
pub record IsFirst (s : List ℕ) (kind : Kind) (body rest : List ℕ) : Type 0 where
  pub whole : well_formed s ≡ true
  pub own_kind : kind_number kind ≡ kind_of s
  pub own_body : body ≡ body_of s
  pub behind : rest ≡ drop (size_of s) s

-- a call is first, and the other records stand behind it
pub record IsCall (s : List ℕ) (kind : Kind) (body rest : List ℕ) : Type 0 where
  pub items : items s ≡ call (call_of (kind_number kind) body) ∷ items rest
  pub fits : length_fits (kind_number kind) (length body) ≡ true
  pub other : kind_number kind ≡ 1 → ⊥
  pub parts : length s ≡ 5 + length body + length rest

-- no call is first: a run stops here
abbrev pub Stops : List Item → Type 0
Stops [] = ⊤
Stops (chain n ∷ is) = ⊤
Stops (call q ∷ is) = ⊥
Stops (malformed ∷ is) = ⊤
