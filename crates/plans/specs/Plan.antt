-- Believed: document 02, request 6; house: which of the shortest lists the planner gives, for one driver and for a chain. No clear on a tie, digits
-- rising, then 0000.
-- Assumes nothing.
use Rattle.std.specs.Prelude.{ℕ, zero, suc, ◌+◌, ◌*◌, ◌/◌, ◌%◌, max, Bool, true, false, List, [], ◌∷◌, ◌++◌, eqb, ltb, length, get_or}
use Rattle.ground.specs.Choice.{if}
use Rattle.ground.specs.Lists.{tabulate}
use Rattle.digits.specs.Digits.{cleared}
use Rattle.digits.specs.declared.Planes.{Planes}
use Rattle.controls.specs.declared.Config.{Config}
use Rattle.device.specs.declared.Device.{Device}
use Rattle.plans.specs.Lists.{record_at, wanted_at}
use Rattle.plans.specs.Least.{plain, anew, least}

-- the word that writes digit k in plane P0
abbrev pub put0 : ℕ → ℕ → ℕ
put0 k v = 0x2000 + k * 256 + v

-- in plane P1
abbrev pub put1 : ℕ → ℕ → ℕ
put1 k v = 0x4000 + k * 256 + v

-- in both
abbrev pub put_both : ℕ → ℕ → ℕ
put_both k v = 0x6000 + k * 256 + v

-- a clear that keeps the configuration
abbrev pub clear_word : Config → ℕ
clear_word c = 0x0420 + c.i * 64 + c.e * 8 + c.b * 4 + c.s

-- the words that digit k needs, which is to hold x and y, by whether P0 is right, P1 is right, and x and y are alike
abbrev pub words_by : Bool → Bool → Bool → ℕ → ℕ → ℕ → List ℕ
words_by true true alike k x y = []
words_by true false alike k x y = put1 k y ∷ []
words_by false true alike k x y = put0 k x ∷ []
words_by false false true k x y = put_both k x ∷ []
words_by false false false k x y = put0 k x ∷ put1 k y ∷ []

-- those of a digit that holds a and b
abbrev pub digit_words : ℕ → ℕ → ℕ → ℕ → ℕ → List ℕ
digit_words k a b x y = words_by (eqb a x) (eqb b y) (eqb x y) k x y

-- those of digit k, from planes p to planes q
abbrev pub digit_words_at : Planes → Planes → ℕ → List ℕ
digit_words_at p q k = digit_words k (get_or p.p0 k 0) (get_or p.p1 k 0) (get_or q.p0 k 0) (get_or q.p1 k 0)

-- those of the digits below n, in order
unfoldable pub steps : Planes → Planes → ℕ → List ℕ
steps p q zero = []
steps p q (suc n) = steps p q n ++ digit_words_at p q n

-- a clear first makes them fewer
abbrev pub clears : Planes → Planes → Bool
clears p q = ltb (anew q) (plain p q)

-- the words from planes p to planes q
unfoldable pub plan_by : Planes → Config → Planes → List ℕ
plan_by p c q = if (clears p q) (clear_word c ∷ steps cleared q 16) (steps p q 16)

-- a driver's
abbrev pub plan_of : Device → Planes → List ℕ
plan_of d q = plan_by d.registers.planes d.registers.config q

-- the largest of f 0 .. f (n - 1)
unfoldable pub largest : ℕ → (ℕ → ℕ) → ℕ
largest zero f = 0
largest (suc n) f = max (largest n f) (f n)

-- the accesses of a chain's list: as many as its slowest driver needs
unfoldable pub accesses : List Device → List ℕ → ℕ
accesses ds wanted = largest (length ds) (λ i. least (record_at ds i).registers.planes (wanted_at wanted i))

-- a chain's list, word by word; a driver that is done waits with 0000
unfoldable pub planned : List Device → List ℕ → List ℕ
planned ds wanted =
    tabulate (accesses ds wanted * length ds)
    (λ m. get_or (plan_of (record_at ds (m % length ds)) (wanted_at wanted (m % length ds))) (m / length ds) 0)
