-- `keys::Packed::group` meets its contract. Assumes nothing.
use Rattle.ground.proofs.Names.{ℕ, ◌/◌, ◌%◌, ◌<◌, div-one, [], ◌∷◌, ◌≡◌, refl, get_or}
use Rattle.keys.specs.PackedKeys.{byte_at}
use Rattle.keys.proofs.Bytewise.{at_places}
use Rattle.keys.proofs.Packed.group.Goals as goal

-- a number's four bytes, by their places
listed : (x j : ℕ) → j < 4 → get_or (x % 256 ∷ x / 256 % 256 ∷ x / 65536 % 256 ∷ x / 16777216 % 256 ∷ []) j 0 ≡ byte_at j x
unfolding byte_at
listed x = at_places (λ j. get_or (x % 256 ∷ x / 256 % 256 ∷ x / 65536 % 256 ∷ x / 16777216 % 256 ∷ []) j 0 ≡ byte_at j x) (rw div-one) refl refl refl

pub returns : goal.returns
returns c =
    let h : c.args.j < 4 = c.requires in
    rw (c.to_le_bytes.ensures, c.to_le_bytes-2.ensures, c.to_le_bytes-3.ensures, c.to_le_bytes-4.ensures)
    (simp (listed c.args.self.mask c.args.j h, listed c.args.self.debounced c.args.j h, listed c.args.self.pressed c.args.j h, listed c.args.self.held c.args.j h))
