-- The examples, by computation.
-- Assumes nothing.
use Rattle.ground.proofs.Names.{ℕ, zero, suc, ◌<◌, arith, true, List, [], ◌∷◌, ◌++◌, ◌≡◌, refl, ltb, get_or, ltb-true, tabulate, Agree, and_left, and_right}
use Rattle.device.specs.Taken.{taken}
use Rattle.plans.specs.Words.{every}
use Rattle.plans.specs.Lists.{Given}
use Rattle.plans.specs.Check.{below, same, accepted_words, accepted_list}
use Rattle.plans.specs.Least.{total}
use Rattle.plans.specs.Plan.{steps, plan_by, largest, accesses, planned}
use Rattle.plans.specs.Examples.{before, sparse, pictures, lists, checks, allowed_rows, Examples}

bench_pictures : Agree pictures
unfolding taken total steps plan_by
bench_pictures = refl

bench_lists : Agree lists
unfolding taken total steps plan_by tabulate largest accesses planned
bench_lists = refl

bench_checks : Agree checks
unfolding taken tabulate every below same accepted_words accepted_list
bench_checks = refl

bench_allowed : Agree allowed_rows
unfolding taken tabulate
bench_allowed = refl

-- a list of bytes, by a test of each
bytes_small : (l : List ℕ) → every (λ b. ltb b 256) l ≡ true → (k : ℕ) → get_or l k 0 < 256
unfolding every
bytes_small [] e k = omega arith
bytes_small (b ∷ l) e zero = ltb-true b 256 (and_left (ltb b 256) (every (λ b. ltb b 256) l) e)
bytes_small (b ∷ l) e (suc k) = bytes_small l (and_right (ltb b 256) (every (λ b. ltb b 256) l) e) k

bench_given : Given (before ∷ []) (sparse.p0 ++ sparse.p1)
unfolding taken every
bench_given = record {
  some = omega arith;
  sound = λ i h. let z : i ≡ 0 = omega arith in rw z;
  sized = refl;
  planes = λ i h. let z : i ≡ 0 = omega arith in rw z (record { first = refl; second = refl });
  bytes = bytes_small (sparse.p0 ++ sparse.p1) refl;
}

pub examples : Examples
examples = record { may_be_used = bench_allowed; given = bench_given; drawn = bench_pictures; listed = bench_lists; checked = bench_checks }
