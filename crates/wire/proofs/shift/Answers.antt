-- `wire::shift` meets its contract. Assumes nothing.
use Rattle.ground.proofs.Names.{ℕ, ◌≤◌, arith, List, true, ◌≡◌, refl, sym, ◌∙◌, length, append-nil, drop-length, take-length, le_refl, eq-eqb, ne_eqb, le-leb, lt-leb}
use Rattle.refusals.specs.Refusals.{size_refusal}
use Rattle.refusals.proofs.RefusalLaws.{size_served as served, served_number, refused_number}
use Rattle.wire.specs.Shift.{fits}
use Rattle.wire.proofs.shift.Goals as goal

-- past the two tests the access fits
passed : (words : List ℕ) (clocks : ℕ) (sent room : List ℕ) → length words ≤ 16 → size_refusal clocks (length sent) (length room) ≡ 0
    → fits words (length words) clocks sent room ≡ true
passed words clocks sent room h f = simp (le-leb _ _ h, le-leb _ _ (le_refl (length words)), eq-eqb _ 0 f)

pub returns-then-drivers-gt16 : goal.returns-then-drivers-gt16
returns-then-drivers-gt16 c = simp (lt-leb _ _ c.if-drivers-gt16.true) (refl, refl)

pub returns-then-is_err : goal.returns-then-is_err
returns-then-is_err c =
    let f = ne_eqb _ 0 (λ z. refused_number c.size_refusal.result (sym c.is_err.ensures.value ∙ c.if-is_err.true) (c.size_refusal.ensures ∙ z)) in
    simp (le-leb _ _ c.if-drivers-gt16.false, le-leb _ _ (le_refl (length c.args.words.now)), f) (refl, refl)

pub shift_whole-requires : goal.shift_whole-requires
shift_whole-requires c =
    let z = sym c.size_refusal.ensures ∙ served_number c.size_refusal.result (sym c.is_err.ensures.value ∙ c.if-is_err.false) in
    omega (arith, served c.args.clocks (length c.args.sent.now) (length c.args.room.now) z)

pub shift_part-requires : goal.shift_part-requires
shift_part-requires c =
    let z = sym c.size_refusal.ensures ∙ served_number c.size_refusal.result (sym c.is_err.ensures.value ∙ c.if-is_err.false) in
    omega (arith, served c.args.clocks (length c.args.sent.now) (length c.args.room.now) z)

pub returns-then-drivers-clocks : goal.returns-then-drivers-clocks
returns-then-drivers-clocks c =
    let z = sym c.size_refusal.ensures ∙ served_number c.size_refusal.result (sym c.is_err.ensures.value ∙ c.if-is_err.false) in
    simp (passed c.args.words.now c.args.clocks c.args.sent.now c.args.room.now c.if-drivers-gt16.false z, take-length, drop-length, append-nil) c.shift_whole.ensures

pub returns-else-drivers-clocks : goal.returns-else-drivers-clocks
returns-else-drivers-clocks c =
    let z = sym c.size_refusal.ensures ∙ served_number c.size_refusal.result (sym c.is_err.ensures.value ∙ c.if-is_err.false) in
    simp (passed c.args.words.now c.args.clocks c.args.sent.now c.args.room.now c.if-drivers-gt16.false z, take-length, drop-length, append-nil) c.shift_part.ensures
