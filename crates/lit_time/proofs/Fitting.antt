-- Every total fits 64 bits: a record adds less than 2^40, and is at least a byte long.
-- Assumes nothing.
use Rattle.ground.proofs.Names.{ℕ, zero, suc, ◌+◌, ◌-◌, ◌*◌, ◌^◌, ◌<◌, ◌≤◌, arith, Bool, true, false, List, [], ◌∷◌, eqb, length, get_or, take, drop, get_or-drop, length-drop, if}
use Rattle.device.specs.declared.Device.{Device}
use Rattle.lit_time.proofs.Weights.{if_most}
use Rattle.lit_time.proofs.Closing.{periods}
use Rattle.calls.specs.Calls.{Step, scan, levels, clocks, segments, Call, access, give, ask, ask_chain}
use Rattle.calls.specs.Served.{record_of}
use Rattle.calls.specs.Outcome.{number, after}
use Rattle.printed.specs.Format.{byte, word, kind_of, size_of, body_of, body_length, well_formed, answer_room, test_table, call_of, Item, chain, call, malformed, item_at, items_after, items}
use Rattle.printed.specs.Script.{others_in, chain_in}
use Rattle.device.specs.PowerUp.{fresh_chain}
use Rattle.lit_time.specs.ScriptTime.{step_time, served_time, call_time, run_time}
use Rattle.lit_time.specs.TotalsFit.{TotalsFit}

-- bytes
abbrev pub Small : List ℕ → Type 0
Small s = (i : ℕ) → get_or s i 0 < 256

pub small_drop : (n : ℕ) (s : List ℕ) → Small s → Small (drop n s)
small_drop n s h i = rw get_or-drop (h (n + i))

small_take : (n : ℕ) (s : List ℕ) → Small s → Small (take n s)
small_take zero s h i = omega arith
small_take (suc n) [] h i = omega arith
small_take (suc n) (b ∷ s) h zero = h 0
small_take (suc n) (b ∷ s) h (suc i) = small_take n s (λ k. h (suc k)) i

-- the clocks that are given
abbrev step_clocks : Step → ℕ
step_clocks (scan a b c d) = 0
step_clocks (levels l) = 0
step_clocks (clocks k) = k

abbrev call_clocks : Call → ℕ
call_clocks (access c sent room) = 0
call_clocks (give j s) = step_clocks s
call_clocks (ask j q) = 0
call_clocks (ask_chain q) = 0

abbrev item_clocks : Item → ℕ
item_clocks (chain n) = 0
item_clocks (call q) = call_clocks q
item_clocks malformed = 0

step_most : (s : Step) (x : Device) (d : ℕ) → step_time s x d ≤ 255 * step_clocks s
step_most (scan a b c e) x d = omega arith
step_most (levels l) x d = omega arith
step_most (clocks k) x d = periods.most x d test_table test_table k

served_most : (q : Call) (ds : List Device) (j d : ℕ) → served_time q ds j d ≤ 255 * call_clocks q
served_most (access c sent room) ds j d = omega arith
served_most (give i s) ds j d = if_most (eqb i j) _ 0 _ (step_most s (record_of ds j) d) (omega arith)
served_most (ask i q) ds j d = omega arith
served_most (ask_chain q) ds j d = omega arith

pub call_most : (q : Call) (ds : List Device) (j d : ℕ) → call_time q ds j d ≤ 255 * call_clocks q
call_most q ds j d = if_most (eqb (number q ds) 0) _ 0 _ (served_most q ds j d) (omega arith)

-- a record's clocks are four bytes
call_small : (kind : ℕ) (b : List ℕ) → Small b → call_clocks (call_of kind b) < 2 ^ 32
call_small kind b h = go (eqb kind 2) (eqb kind 3) (eqb kind 4) (eqb kind 5)
  where
    go : (p q r t : Bool)
        → call_clocks
        (if p (access (word b 0) (drop 2 b) answer_room)
        (if q (give (byte b 0) (scan (byte b 1) (byte b 2) (byte b 3) (byte b 4)))
        (if r (give (byte b 0) (levels (byte b 1)))
        (if t (give (byte b 0) (clocks (65536 * word b 1 + word b 3)))
        (ask (byte b 0) (segments (byte b 1) test_table test_table))))))
        < 2 ^ 32
    go true q r t = omega arith
    go false true r t = omega arith
    go false false true t = omega arith
    go false false false true = omega (arith, h 1, h 2, h 3, h 4)
    go false false false false = omega arith

item_small : (s : List ℕ) → Small s → item_clocks (item_at s) < 2 ^ 32
item_small s h = go (well_formed s) (eqb (kind_of s) 1)
  where
    go : (a b : Bool) → item_clocks (if a (if b (chain (byte s 5)) (call (call_of (kind_of s) (body_of s)))) malformed) < 2 ^ 32
    go true true = omega arith
    go true false = call_small (kind_of s) (body_of s) (small_take (body_length s) (drop 5 s) (small_drop 5 s h))
    go false b = omega arith

pub items_most : (k : ℕ) (s : List ℕ) (ds : List Device) (j d : ℕ) → Small s → run_time (items_after k s) ds j d ≤ 2 ^ 40 * length s
unfolding items_after run_time
items_most zero [] ds j d h = omega arith
items_most (suc k) [] ds j d h = omega arith
items_most zero (b ∷ s) ds j d h =
    go (item_at (b ∷ s)) (item_small (b ∷ s) h) (λ es. items_most (size_of (b ∷ s) - 1) s es j d (λ i. h (suc i)))
  where
    go : (i : Item) → item_clocks i < 2 ^ 32
        → ((es : List Device) → run_time (items_after (size_of (b ∷ s) - 1) s) es j d ≤ 2 ^ 40 * length s)
        → run_time (i ∷ items_after (size_of (b ∷ s) - 1) s) ds j d ≤ 2 ^ 40 * length (b ∷ s)
    go (chain n) l later = omega arith
    go (call q) l later = omega (arith, call_most q ds j d, later (after q ds))
    go malformed l later = omega arith
items_most (suc k) (b ∷ s) ds j d h = omega (arith, items_most k s ds j d (λ i. h (suc i)))

others_most : (s : List ℕ) (ds : List Device) (j d : ℕ) → Small s → run_time (others_in (items s)) ds j d ≤ 2 ^ 40 * length s
unfolding items_after run_time
others_most [] ds j d h = omega arith
others_most (b ∷ s) ds j d h =
    go (item_at (b ∷ s)) (item_small (b ∷ s) h) (λ es. items_most (size_of (b ∷ s) - 1) s es j d (λ i. h (suc i)))
  where
    go : (i : Item) → item_clocks i < 2 ^ 32
        → ((es : List Device) → run_time (items_after (size_of (b ∷ s) - 1) s) es j d ≤ 2 ^ 40 * length s)
        → run_time (others_in (i ∷ items_after (size_of (b ∷ s) - 1) s)) ds j d ≤ 2 ^ 40 * length (b ∷ s)
    go (chain n) l later = omega (arith, later ds)
    go (call q) l later = omega (arith, call_most q ds j d, later (after q ds))
    go malformed l later = omega arith

pub totals_fit : TotalsFit
totals_fit s j d l h = omega (arith, others_most s (fresh_chain (chain_in (items s))) j d h)

-- the same, from a place on
pub rest_fits : (s : List ℕ) (from : ℕ) (ds : List Device) (j d : ℕ) → length s ≤ 65536 → Small s → run_time (items (drop from s)) ds j d < 2 ^ 64
rest_fits s from ds j d l h = omega (arith, items_most 0 (drop from s) ds j d (small_drop from s h), length-drop from s)
