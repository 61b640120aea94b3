-- `lent::shift_words` meets its contract. Assumes nothing.
use Rattle.ground.proofs.Names.{ℕ, ◌≡◌, ◌<◌, arith, sym, ap, subst, ◌∙◌, length}
use Rattle.pass.specs.Found.{in_room}
use Rattle.pass.specs.OneByOne.{words_to}
use Rattle.pass.proofs.WidthLaws.{widths_start, all_start}
use Rattle.pass.proofs.StepLaws.{words_start}
use Rattle.pass.proofs.FoundLaws.{in_room_below}
use Rattle.lent.proofs.Passed.{widths_turn, words_turn, old_access, mixed_access}
use Rattle.lent.proofs.shift_words.Goals as goal

pub loop-i-init : goal.loop-i-init
loop-i-init c = (c.new-w.ensures ∙ widths_start c.args.chain.now, all_start c.args.chain.now, words_start c.args.chain.now c.args.words.now)

pub loop-i-preserved : goal.loop-i-preserved
loop-i-preserved c =
    let xs = c.args.chain.now in
    let i = c.loop-i.i in
    let l = c.loop-i.invariant in
    let below = in_room_below (length xs) (length c.args.words.now) i (subst (λ (m : ℕ). i < m) c.in_room-m.ensures c.loop-i-test.true) in
    let t = widths_turn xs i _ below.0 l.0 l.1 c.with-w.ensures.wider c.with-w.ensures.bytes in
    (t.0, t.1, words_turn xs i _ below.0 c.args.words.now l.2 below.1)

pub bounds-chain-i : goal.bounds-chain-i
bounds-chain-i c =
    (in_room_below (length c.args.chain.now) (length c.args.words.now) c.loop-i.i (subst (λ (m : ℕ). c.loop-i.i < m) c.in_room-m.ensures c.loop-i-test.true)).0

pub bounds-words-i : goal.bounds-words-i
bounds-words-i c =
    let h = in_room_below (length c.args.chain.now) (length c.args.words.now) c.loop-i.i (subst (λ (m : ℕ). c.loop-i.i < m) c.in_room-m.ensures c.loop-i-test.true) in
    omega (arith, h, c.loop-i.auto.words)

pub returns-then-old : goal.returns-then-old
returns-then-old c =
    let xs = c.args.chain.now in
    let n = length c.args.words.now in
    let e : c.loop-i.i ≡ in_room (length xs) n = omega (arith, c.in_room-m.ensures) in (
      c.found_old.ensures ∙ old_access xs 0 n e c.loop-i.invariant.0 c.loop-i.invariant.1 (sym c.old.ensures ∙ c.if-old.true),
      c.loop-i.invariant.2 ∙ ap (words_to xs c.args.words.now) e,
    )

pub returns : goal.returns
returns c =
    let xs = c.args.chain.now in
    let n = length c.args.words.now in
    let e : c.loop-i.i ≡ in_room (length xs) n = omega (arith, c.in_room-m.ensures) in (
      c.records_refusal.ensures ∙ mixed_access xs 0 n e c.loop-i.invariant.0 c.loop-i.invariant.1 (sym c.old.ensures ∙ c.if-old.false),
      c.loop-i.invariant.2 ∙ ap (words_to xs c.args.words.now) e,
    )
