-- `planner::own_accepted` meets its contract. Assumes nothing.
use Rattle.ground.proofs.Names.{sym, ap, ◌∙◌, refl}
use Rattle.std.specs.Slice.Iter.{chunks_exact_rest}
use Rattle.digits.specs.declared.Planes.{Planes}
use Rattle.plans.specs.Lists.{words_at}
use Rattle.planner.specs.OneDriver.{from_planes}
use Rattle.planner.proofs.CheckLaws.{same_plain, some_taken, none_taken, word_taken, word_refused, words_done}
use Rattle.planner.proofs.own_accepted.Goals as goal

pub loop-access-init : goal.loop-access-init
loop-access-init c =
    let e = c.chunks_exact-access-items.ensures in
    rw (c.into_iter-access-iterator.ensures.into_iter_gives, e.size, e.rest) (refl, refl)

pub returns-then-not-obeys : goal.returns-then-not-obeys
returns-then-not-obeys c =
    let a = c.args in
    let l = c.loop-access in
    let s = c.in-Some.ensures.steps in
    let t = none_taken _ _ (sym (rw c.if-not-obeys.true at c.obeys.ensures)) in
    sym (l.invariant.1 ∙ rw s.1.0 (word_refused a.n a.i c.requires.0 a.d.now.registers.config a.wanted l.held _ _ (s.1.1 ∙ l.invariant.0) t))

pub loop-access-preserved : goal.loop-access-preserved
loop-access-preserved c =
    let a = c.args in
    let l = c.loop-access in
    let s = c.in-Some.ensures.steps in
    let t = some_taken _ _ _ (sym (rw c.if-not-obeys.false at c.obeys.ensures)) in (
      s.0 ∙ l.invariant.0,
      l.invariant.1 ∙ rw s.1.0 (word_taken a.n a.i c.requires.0 a.d.now.registers.config a.wanted l.held _ _ (s.1.1 ∙ l.invariant.0) t.0
          ∙ ap (λ (p : Planes). from_planes a.d.now.registers.config a.wanted p (words_at a.n (chunks_exact_rest c.next.new.self) a.i)) t.1),
    )

pub returns : goal.returns
returns c =
    let a = c.args in
    let l = c.loop-access in
    rw c.plain.ensures
    (sym (l.invariant.1 ∙ words_done a.n a.i c.requires.0 a.d.now.registers.config a.wanted l.held _ (rw l.invariant.0 at c.in-None.ensures.steps.1.0) ∙ same_plain l.held a.wanted))
