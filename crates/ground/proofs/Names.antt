-- The names of the libraries, and of this crate, that proofs of every crate use, passed on from one place.
-- Assumes nothing.
pub use mathlib.Core.Path.{◌∙◌, ◌≡◌, ap, ap₂, refl, subst, sym}
pub use mathlib.Core.List.{List, [], ◌++◌, ◌∷◌, append_assoc, append-nil, map}
pub use mathlib.Core.Bool.{Bool, beq as Bool·beq, ◌&&◌, ◌||◌, and_assoc, false, not, or-true, true, true≢false}
pub use mathlib.Core.Option.{Option, none}
pub use mathlib.Core.Logic.{◌≢◌, ⊎_elim}
pub use Prim.Native.Nat.{◌%◌, ◌*◌, ◌+◌, ◌-◌, ◌/◌, ◌<◌, ◌^◌, ◌≤◌, max, min, suc, zero, ℕ}
pub use native.Mathlib.Nat.{add-mul, add-suc, add-zero, div-add-mod', div-div-eq-div-mul, div-eq_of_lt, div-le_self, div-lt_iff_lt-mul, div-mul-le_self, div-one, le-div_iff_mul-le, le_of_suc-le-suc, le_refl, mod-eq_of_lt, mod-lt, mod-one, mul-add-div_right, mul-add-mod_self_right, mul_comm, mul-div_cancel, mul-le-mul, mul-le-mul_right, mul-mod_left, mul-suc, mul-zero, not-suc-le-zero, pow-suc, sub-zero, suc-add, suc-mul, zero-add, zero-div}
pub use native.Mathlib.Numerals.{add-one, towards_suc}
pub use native.Mathlib.Decide.{dec_lt, ℕ_discrete}
pub use native.Mathlib.Omega.{arith}
pub use lib.Dec.{T as Holds, eqb, eqb→eq, leb, lit<, ltb}
pub use lib.ListN.{get_or-append as List·getD-append, get_or-eq_default as List·getD-eq-default, get_or-map as List·getD-map, drop, drop_of_length-le, get_or, get_or-replicate, length, length-append, length-drop, length-map, length-replicate, length-set, length-take, replicate, set, take, take-append-drop}
pub use lib.Seq.{drop-append-add, drop-append-le, drop_at, drop-cons, drop-drop, drop-length, drop-nil, drop-set-lt, ext_get_or, get_or-drop, get_or-set_other, get_or-set_same, get_or-take, length-sets, length-take-le, map-set_same, paste, paste-suc, paste-zero, set-append_left, set_at, set_comm, set-get_or, set-set, set_split, sets, sets-eq, take-add, take_all, take-append-add, take-append-le, take-append_seam, take_at, take-length, take-suc, take-take}
pub use lib.Bits.{and_block, and_le_l, and_le_r, and_mask, and_mod, and_shr, and_zero_r, bit_and, bit_or, or_add_and, or_lt, or_mod, or_shr, or_zero_l, or_zero_r}
pub use lib.Pow.{field, high, low, mod-pow-add, pow-add, pow_mono}
pub use borrow.Author.Rules.{rules, scaled_Fits}
pub use borrow.Author.Tests.{eq-eqb, eqb-false, eqb-true, le-leb, le-ltb, leb-true, lt-leb, lt-ltb, ltb-false, ltb-true, ne_eqb, not-false, not-true}
pub use Rattle.ground.specs.Choice.{bit, if, odd}
pub use Rattle.ground.specs.Lists.{Agree}
unfoldable pub use Rattle.ground.specs.Lists.{tabulate}
pub use Rattle.ground.proofs.Tests.{tests}
pub use Rattle.ground.proofs.Truth.{and_left, and_right, if_small, mod_small, passed, same}
pub use Rattle.ground.proofs.Lists.{get_d_tabulate, length_tabulate, tabulate_ext}
pub use Rattle.ground.proofs.Below.{all, all_at}
pub use Rattle.ground.proofs.Filled.{Filled, append_two, filled_all, filled_more, filled_rest, filled_start, tabulate_none, tabulate_rest, tabulate_step, tabulate_take}
pub use Rattle.ground.proofs.Arms.{not_second, past_arms}
pub use Rattle.ground.proofs.Arrays.{kept, past}
pub use Rattle.ground.proofs.Bits.{and_bit, high_bit, low_bit, not_bit, or_bit, some_bit}
