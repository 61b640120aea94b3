-- `stopping_word::stopping_place` meets its contract. The invariant: no word after the first k stops, so the place is that of these. Assumes nothing.
use Rattle.ground.proofs.Names.{suc, ◌-◌, ◌≡◌, arith, sym, ap, ◌∙◌, take-length}
use Rattle.look_back.specs.Stops.{last_place}
use Rattle.stopping_word.specs.Masks.{stops_under}
use Rattle.look_back.proofs.PlaceLaws.{stops_at, goes_on, no_words}
use Rattle.stopping_word.proofs.stopping_place.Goals as goal

pub loop-k-init : goal.loop-k-init
loop-k-init c =
    let a = c.args in
    (omega arith, ap (last_place (stops_under a.mask a.pattern)) (sym (take-length a.words.now)))

pub returns-then-stops-clause-place : goal.returns-then-stops-clause-place
returns-then-stops-clause-place c =
    let a = c.args in
    let l = c.loop-k in
    let t = sym c.stops.ensures ∙ c.if-stops.true in
    let e : suc (l.k - 1) ≡ l.k = omega arith in
    e ∙ sym (l.invariant.1 ∙ stops_at (stops_under a.mask a.pattern) a.words.now (l.k - 1) l.k (omega arith) (omega arith) t)

pub loop-k-preserved : goal.loop-k-preserved
loop-k-preserved c =
    let a = c.args in
    let l = c.loop-k in
    let t = sym c.stops.ensures ∙ c.if-stops.false in
    (omega arith, l.invariant.1 ∙ goes_on (stops_under a.mask a.pattern) a.words.now (l.k - 1) l.k (omega arith) (omega arith) t)

pub returns-clause-place : goal.returns-clause-place
returns-clause-place c =
    let a = c.args in
    let l = c.loop-k in
    sym (l.invariant.1 ∙ no_words (stops_under a.mask a.pattern) a.words.now l.k (omega arith))
