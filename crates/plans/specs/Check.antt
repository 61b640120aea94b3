-- Believed: document 02, request 6: "A small check", as a test, and that it accepts exactly the accepted lists.
-- Assumes nothing.
use Rattle.std.specs.Prelude.{ℕ, zero, suc, ◌%◌, Bool, true, ◌&&◌, List, ◌↔◌, ◌≡◌, eqb, length, get_or}
use Rattle.digits.specs.declared.Planes.{Planes}
use Rattle.device.specs.Table15.{after_words}
use Rattle.device.specs.declared.Device.{Device}
use Rattle.plans.specs.Words.{allowed, every}
use Rattle.plans.specs.Lists.{record_at, wanted_at, words_at, AcceptedList, Given}

-- f holds at each number below n
unfoldable pub below : ℕ → (ℕ → Bool) → Bool
below zero f = true
below (suc n) f = below n f && f n

-- the same sixteen digits in both planes
unfoldable pub same : Planes → Planes → Bool
same p q = below 16 (λ k. eqb (get_or p.p0 k 0) (get_or q.p0 k 0) && eqb (get_or p.p1 k 0) (get_or q.p1 k 0))

-- one driver's words
unfoldable pub accepted_words : Device → Planes → List ℕ → Bool
accepted_words d q ws = every (allowed d) ws && same (after_words d ws).registers.planes q

-- a chain's list
unfoldable pub accepted_list : List Device → List ℕ → List ℕ → Bool
accepted_list ds wanted list =
    eqb (length list % length ds) 0
    && below (length ds) (λ i. accepted_words (record_at ds i) (wanted_at wanted i) (words_at (length ds) list i))

-- "accepts a list exactly if it is whole accesses, ends in the wanted planes and holds these words alone"
abbrev pub Checked : Type 0
Checked =
    (ds : List Device) (wanted list : List ℕ)
    → Given ds wanted
    → (accepted_list ds wanted list ≡ true) ↔ AcceptedList ds wanted list
