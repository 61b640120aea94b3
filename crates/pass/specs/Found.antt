-- Auxiliary: the number of a call as it is found, first by its arguments, then by a pass over the records. `number` of `calls` is what is believed.
-- Assumes nothing.
use Rattle.std.specs.Prelude.{ℕ, Bool, ◌&&◌, List, [], ◌∷◌, eqb, leb, length}
use Rattle.ground.specs.Choice.{if}
use Rattle.refusals.specs.Refusals.{chain_refusal, driver_refusal, sound_refusal, family_refusal, first_of, size_refusal}
use Rattle.device.specs.Families.{families}
use Rattle.device.specs.declared.Device.{Device}
use Rattle.calls.specs.CallRefusals.{family_at, families_below, all_sound}
use Rattle.pass.specs.Own.{argument_at, lack_at, row_lack_at}

-- the number of a call that names a driver, by these alone
abbrev pub by_arguments : ℕ → ℕ → ℕ
by_arguments n driver = first_of (chain_refusal n ∷ driver_refusal n driver ∷ [])

-- the number of an access, by its arguments
abbrev pub access_by_arguments : ℕ → ℕ → ℕ → ℕ → ℕ
access_by_arguments n c sent room = first_of (chain_refusal n ∷ size_refusal c sent room ∷ [])

-- how many of n records are passed over: none where the number is known
abbrev pub to_pass : ℕ → ℕ → ℕ
to_pass first n = if (eqb first 0) n 0

-- and none where there isn't room for their words among w
abbrev pub to_pass_in : ℕ → ℕ → ℕ → ℕ
to_pass_in first n w = if (eqb first 0 && leb n w) n 0

-- how many of n records take one of w words: all or none
abbrev pub in_room : ℕ → ℕ → ℕ
in_room n w = if (leb n w) n 0

-- the number of an access once they are passed, and are sound or not, of known families or not
abbrev pub found : ℕ → Bool → Bool → ℕ
found first sound known = if (eqb first 0) (first_of (sound_refusal sound ∷ family_refusal known ∷ [])) first

-- of a call whose records are all of the old family; own is what the call is tested by
abbrev pub found_old : ℕ → Bool → ℕ → ℕ
found_old first sound own = if (eqb first 0) (first_of (argument_at own 0 ∷ sound_refusal sound ∷ lack_at own 0 ∷ [])) first

-- of a call to a driver of family f, by the records alone: whether they are sound, of known families, and of the old one
abbrev pub found_by : Bool → Bool → Bool → ℕ → ℕ → ℕ
found_by sound known old own f = first_of (argument_at own f ∷ sound_refusal sound ∷ family_refusal known ∷ lack_at own f ∷ row_lack_at own old ∷ [])

-- the same of a chain
abbrev pub records_refusal : List Device → ℕ → ℕ → ℕ
records_refusal ds f own = found_by (all_sound ds) (families_below 2 (families ds)) (families_below 1 (families ds)) own f

-- the number of a call on a chain that names a driver
abbrev pub call_refusal : List Device → ℕ → ℕ → ℕ
call_refusal ds driver own =
    first_of (chain_refusal (length ds) ∷ driver_refusal (length ds) driver ∷ argument_at own (family_at (families ds) driver) ∷ sound_refusal (all_sound ds)
    ∷ family_refusal (families_below 2 (families ds)) ∷ lack_at own (family_at (families ds) driver) ∷ row_lack_at own (families_below 1 (families ds)) ∷ [])

-- of one that asks the whole row, which no MAX6957 may be in
abbrev pub row_refusal : List Device → ℕ
row_refusal ds = first_of (chain_refusal (length ds) ∷ sound_refusal (all_sound ds) ∷ family_refusal (families_below 1 (families ds)) ∷ [])
