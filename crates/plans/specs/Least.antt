-- Believed: document 02, request 6; house: the number of words by which the planner decides whether to clear. That no list is shorter is a theorem
-- (Shortest).
-- Assumes nothing.
use Rattle.std.specs.Prelude.{ℕ, zero, suc, ◌+◌, min, max, Bool, true, false, eqb, get_or}
use Rattle.digits.specs.Digits.{cleared}
use Rattle.digits.specs.declared.Planes.{Planes}

-- 1 where a byte isn't right
abbrev pub wrong : Bool → ℕ
wrong true = 0
wrong false = 1

-- the words that a digit needs, by whether its byte in P0 is right and that in P1: one for both where they are wanted alike, else one each
abbrev pub need_by : Bool → Bool → Bool → ℕ
need_by r0 r1 true = max (wrong r0) (wrong r1)
need_by r0 r1 false = wrong r0 + wrong r1

-- those of a digit that holds a in P0 and b in P1, and is to hold x and y
abbrev pub need : ℕ → ℕ → ℕ → ℕ → ℕ
need a b x y = need_by (eqb a x) (eqb b y) (eqb x y)

-- those of digit k
abbrev pub need_at : Planes → Planes → ℕ → ℕ
need_at p q k = need (get_or p.p0 k 0) (get_or p.p1 k 0) (get_or q.p0 k 0) (get_or q.p1 k 0)

-- f 0 + .. + f (n - 1)
unfoldable pub total : ℕ → (ℕ → ℕ) → ℕ
total zero f = 0
total (suc n) f = total n f + f n

-- the words from planes p to planes q without a clear
abbrev pub plain : Planes → Planes → ℕ
plain p q = total 16 (need_at p q)

-- with a clear first
abbrev pub anew : Planes → ℕ
anew q = 1 + plain cleared q

-- the fewer of the two
abbrev pub least : Planes → Planes → ℕ
least p q = min (plain p q) (anew q)
