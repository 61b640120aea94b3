-- What the types of a row and of its records say of their values.
--     all_bytes      the bytes of a row's records are bytes
--     default        an element, whatever is read past the end
-- Assumes nothing.
use Rattle.ground.proofs.Names.{ℕ, zero, suc, ◌<◌, List, [], ◌∷◌, ◌≡◌, length, get_or, take, drop-cons}
use mir.Val.{Val}
use denote.Array.{each}
use denote.Laws.{Is}
use denote.Shadow.{shadow}
use denote.Struct.Declared as Declared
use denote.Struct.Laws.{owed}
use Rattle.device.specs.declared.Device.{Device}
use Rattle.device.specs.contracts.Device as Driver
use Rattle.pass.specs.Widths.{AllBytes}
use Rattle.pass.proofs.Typed.{bytes_of}
use Rattle.row.specs.declared.Row.{Row}
use Rattle.row.specs.contracts.Row as Chain
use Rattle.row.proofs.Row.TheLaws as Chain'

pub all_bytes : (r : Row) (vs : List Val) → Is (Declared.row Chain.the_type) r vs → (n : ℕ) → AllBytes (take n r.devices)
unfolding AllBytes
all_bytes r vs is n = let x = (owed Chain.the_type Chain'.the_laws r vs is).1.0 in go r.devices x.0 x.1.1 n
  where
    go : (xs : List Device) (us : List Val) → shadow (each (Driver.the_row).Denot (Driver.the_row).own_val xs us) → (n : ℕ) → AllBytes (take n xs)
    go xs us s zero = tt
    go [] us s (suc n) = tt
    go (x ∷ xs) [] s (suc n) = absurd s
    go (x ∷ xs) (u ∷ us) s (suc n) = (bytes_of x (u ∷ []) s.0, go xs us s.1 n)

pub default : {A : Type 0} (d e : A) (xs : List A) (i : ℕ) → i < length xs → get_or xs i d ≡ get_or xs i e
default d e xs i h = cc (drop-cons xs i d h, drop-cons xs i e h)
