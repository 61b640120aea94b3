-- `text::decimal` meets its contract. The invariant: the digits from a place on stand, and those of what is left are to come. Assumes nothing.
use Rattle.ground.proofs.Names.{◌-◌, ◌%◌, ◌+◌, ◌≤◌, arith, ◌≡◌, refl, ◌∙◌, length, take, drop, set, length-drop, length-set, take_all, rules}
use Rattle.text.specs.Text.{decimal}
use Rattle.text.proofs.Digits.{digits_start, some_left, digits_more, digits_end}
use Rattle.text.proofs.decimal.Goals as goal

pub loop-left-preserved : goal.loop-left-preserved
loop-left-preserved c = digits_more c.loop-left.invariant _ refl c.loop-left-test.true

pub slice_bounds-put-end : goal.slice_bounds-put-end
slice_bounds-put-end c =
    let l = c.loop-left in
    let h : 20 ≤ length (set l.digits l.place (48 + l.left % 10)) = rw (length-set, l.invariant.twenty) (omega arith) in
    search rules

pub returns : goal.returns
returns c =
    let l = c.loop-left in
    let digits = set l.digits l.place (48 + l.left % 10) in
    let h : length (drop l.place digits) ≤ 20 - l.place = rw (length-drop, length-set, l.invariant.twenty) (omega arith) in
    let e : take (20 - l.place) (drop l.place digits) ≡ decimal c.args.v = take_all (20 - l.place) (drop l.place digits) h ∙ digits_end l.invariant _ refl (omega (arith, c.loop-left-test.false)) in rw e at c.put.ensures

pub loop-left-init : goal.loop-left-init
loop-left-init c = digits_start _ _ refl (omega arith)

pub overflow_sub-place : goal.overflow_sub-place
overflow_sub-place c = some_left c.loop-left.invariant c.loop-left-test.true
