-- `stopping_word::looked` meets its contract: the place that the masks find is the stopping place, and it decides the byte. Assumes nothing.
use Rattle.ground.proofs.Names.{◌∙◌}
use Rattle.std.specs.Prelude.{None, Some}
use Rattle.look_back.proofs.LookedLaws.{looked_by}
use Rattle.stopping_word.specs.Masks.{counted}
use Rattle.stopping_word.proofs.MaskLaws.{masks_place}
use Rattle.stopping_word.proofs.Typed.{sized_planes}
use Rattle.stopping_word.proofs.looked.Goals as goal

pub returns-in-Some : goal.returns-in-Some
returns-in-Some c =
    let a = c.args in
    let words = c.type_inv.words in
    let n = counted (Some c.in-Some.k) in
    c.left_by.ensures
    ∙ looked_by a.plane a.digit c.requires a.words.now a.device (sized_planes a.device _ c.well_formed.0) n
    (masks_place a.plane a.digit a.words.now c.requires (λ k. (words k).fits) n _ _ c.mask.ensures c.pattern.ensures c.in-Some.ensures.place)

pub returns-in-None : goal.returns-in-None
returns-in-None c =
    let a = c.args in
    let words = c.type_inv.words in
    let n = counted None in
    c.digit.ensures
    ∙ looked_by a.plane a.digit c.requires a.words.now a.device (sized_planes a.device _ c.well_formed.0) n
    (masks_place a.plane a.digit a.words.now c.requires (λ k. (words k).fits) n _ _ c.mask.ensures c.pattern.ensures c.in-None.ensures.place)
