-- `keys::Keys::scanned` meets its contract. Assumes nothing.
use Rattle.ground.proofs.Names.{ℕ, ◌<◌, List, rules}
use mir.Val.{Val}
use denote.Shadow.{shadow}
use Rattle.keys.specs.declared.Group.{Group}
use Rattle.keys.specs.contracts.Group.{the_type, the_field}
use Rattle.keys.proofs.Bytewise.{at_places}
use Rattle.keys.proofs.Together.{Bytes, four, scanned_packed_lem}
use Rattle.keys.proofs.Keys.scanned.Goals as goal

-- what a group holds are bytes, by its type
bytes : (g : Group) (us : List Val) → shadow (the_field.row.own_val (the_type.to g) us) → Bytes g
bytes g us w =
    record { mask = w.1.1.0.1; debounced = w.1.1.1.0.1; pressed = w.1.1.1.1.0.1; held = w.1.1.1.1.1.0.1 }

pub returns : goal.returns
returns c =
    let s = c.args.self in
    let registers : (j : ℕ) → j < 4 → Bytes (four s.a s.b s.c s.d j) =
    let w = c.well_formed.0.1.1 in
    at_places (λ j. Bytes (four s.a s.b s.c s.d j)) (bytes _ _ w.0) (bytes _ _ w.1.0) (bytes _ _ w.1.1.0) (bytes _ _ w.1.1.1.0) in
    let closed : (j : ℕ) → j < 4 → four c.args.a c.args.b c.args.c c.args.d j < 256 =
    at_places (λ j. four c.args.a c.args.b c.args.c c.args.d j < 256) (search rules) (search rules) (search rules) (search rules) in
    simp (c.unpacked.ensures, c.scanned.ensures, c.raised_or-interrupt.ensures, c.raises.ensures, c.configured.ensures, c.from_le_bytes.ensures, c.packed-old.ensures)
    (scanned_packed_lem s c.args.ports c.args.a c.args.b c.args.c c.args.d registers closed)
