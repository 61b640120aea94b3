-- Believed: document 01, "The lowest of 1 to 7 that applies is given", and document 02's numbers after them: 12 and 13 in that order, 14 before 12.
-- Assumes nothing.
use Rattle.std.specs.Prelude.{ℕ, ◌*◌, ◌≤◌, List, [], ◌∷◌, ◌≡◌, eqb, length, get_or}
use Rattle.ground.specs.Choice.{if}
use Rattle.refusals.specs.Refusals.{chain_refusal, sound_refusal, family_refusal, lack_refusal}
use Rattle.device.specs.Families.{families}
use Rattle.device.specs.declared.Device.{Device}
use Rattle.calls.specs.Calls.{Call}
use Rattle.calls.specs.CallRefusals.{named_refusal, bytes_refusal, argument_refusal, families_below, lacks, contents_refusal, shortest_refusal, all_sound}
use Rattle.calls.specs.Outcome.{number}

-- what of the table applies to a call on a chain: 1, 2, the lowest of 3 to 5, 6, 7, 14 by a family and by the call, 12, 13; 0 for what doesn't
abbrev pub applying : Call → List Device → List ℕ
applying q ds =
    chain_refusal (length ds)
    ∷ named_refusal (length ds) q
    ∷ bytes_refusal q
    ∷ argument_refusal (families ds) q
    ∷ sound_refusal (all_sound ds)
    ∷ family_refusal (families_below 2 (families ds))
    ∷ lack_refusal (lacks (families ds) q)
    ∷ contents_refusal (length ds) q
    ∷ shortest_refusal ds q
    ∷ []

-- numbers rise with their places, but 14 stands between 11 and 12
abbrev pub place : ℕ → ℕ
place k = if (eqb k 14) 23 (2 * k)

-- for every call on every chain
pub record Order : Type 0 where
  -- where any applies the call is refused, and none that applies has a lower place than the number given
  pub lowest : (q : Call) (ds : List Device) (i : ℕ) → (get_or (applying q ds) i 0 ≡ 0 → ⊥)
      → (number q ds ≡ 0 → ⊥) × (place (number q ds) ≤ place (get_or (applying q ds) i 0))
  -- the number given is one that applies, or 0
  pub given : (q : Call) (ds : List Device) → (i : ℕ) × (number q ds ≡ get_or (applying q ds) i 0)
  -- and none is above 14
  pub most : (q : Call) (ds : List Device) → number q ds ≤ 14
