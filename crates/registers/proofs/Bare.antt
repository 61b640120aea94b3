-- What R and T do, the registers that take nothing, or read 0, and what a read leaves.
-- Assumes nothing.
use Rattle.ground.proofs.Names.{ℕ, true, false, ◌≡◌, ◌≢◌, refl, ap, if, bit}
use Rattle.words.specs.declared.KeyGroup.{KeyGroup}
use Rattle.words.specs.declared.Register.{Register}
use Rattle.words.specs.declared.Register.TheVariants.{NoOp, Control, Configuration, KeyMask, KeyDebounced, KeyPressed, Intensity, Digit, BothPlanes, Unlisted}
use Rattle.digits.specs.Digits.{cleared}
use Rattle.registers.specs.Registers.{written, data_of, after_read}
use Rattle.registers.specs.WrittenAndRead.{WrittenAndRead}
use Rattle.registers.specs.declared.Registers.{Registers}

no_op_written : (x : Registers) (v : ℕ) → written x NoOp v ≡ x
no_op_written x v = refl

no_op_read : (x : Registers) → data_of x NoOp ≡ 0
no_op_read x = refl

r_set : (x : Registers) (v : ℕ) → bit 5 v ≡ true → (written x Configuration v).planes ≡ cleared
r_set x v e = ap (λ b. if b cleared x.planes) e

r_clear : (x : Registers) (v : ℕ) → bit 5 v ≡ false → (written x Configuration v).planes ≡ x.planes
r_clear x v e = ap (λ b. if b cleared x.planes) e

t_set : (x : Registers) (v : ℕ) → bit 4 v ≡ true → (written x Configuration v).blink ≡ 0
t_set x v e = ap (λ b. if b 0 x.blink) e

t_clear : (x : Registers) (v : ℕ) → bit 4 v ≡ false → (written x Configuration v).blink ≡ x.blink
t_clear x v e = ap (λ b. if b 0 x.blink) e

both_read : (x : Registers) (i : ℕ) → data_of x (BothPlanes i) ≡ 0
both_read x i = refl

report_written : (x : Registers) (g : KeyGroup) (v : ℕ) → (written x (KeyDebounced g) v ≡ x) × (written x (KeyPressed g) v ≡ x)
report_written x g v = (refl, refl)

left : (x : Registers) (r : Register) → ((g : KeyGroup) → r ≢ KeyDebounced g) → after_read x r ≡ x
left x NoOp e = refl
left x (Control c) e = refl
left x Configuration e = refl
left x (KeyMask g) e = refl
left x (KeyDebounced g) e = absurd (e g refl)
left x (KeyPressed g) e = refl
left x (Intensity j) e = refl
left x (Digit p i) e = refl
left x (BothPlanes i) e = refl
left x Unlisted e = refl

pub written_and_read : WrittenAndRead
written_and_read =
    record {
      no_op_written = no_op_written;
      no_op_read = no_op_read;
      r_set = r_set;
      r_clear = r_clear;
      t_set = t_set;
      t_clear = t_clear;
      mask_read = λ x g. refl;
      report_written = report_written;
      left = left;
      debounced_left = λ x g. refl;
      both_read = both_read;
      unlisted_written = λ x v. refl;
      unlisted_read = λ x. refl;
    }
