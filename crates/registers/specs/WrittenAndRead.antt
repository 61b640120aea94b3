-- Believed: document 01, "Registers": what R and T do, the registers that take nothing, or read 0, and what a read leaves.
-- Assumes nothing.
use Rattle.std.specs.Prelude.{ℕ, true, false, ◌≢◌, ◌≡◌}
use Rattle.ground.specs.Choice.{bit}
use Rattle.words.specs.declared.KeyGroup.{KeyGroup}
use Rattle.words.specs.declared.Register.{Register}
use Rattle.words.specs.declared.Register.TheVariants.{NoOp, Configuration, KeyMask, KeyDebounced, KeyPressed, BothPlanes, Unlisted}
use Rattle.keys.specs.Keys.{debounced_read}
use Rattle.digits.specs.Digits.{cleared}
use Rattle.registers.specs.Record.{with_keys}
use Rattle.registers.specs.Registers.{written, data_of, after_read}
use Rattle.registers.specs.declared.Registers.{Registers}

-- whatever the registers hold
pub record WrittenAndRead : Type 0 where
  -- 0x00 no-op: writes do nothing, it reads 0
  pub no_op_written : (x : Registers) (v : ℕ) → written x NoOp v ≡ x
  pub no_op_read : (x : Registers) → data_of x NoOp ≡ 0
  -- bits P I R T E B X S: R=1 clears the planes, T=1 sets the count to 0, and no other bit does either
  pub r_set : (x : Registers) (v : ℕ) → bit 5 v ≡ true → (written x Configuration v).planes ≡ cleared
  pub r_clear : (x : Registers) (v : ℕ) → bit 5 v ≡ false → (written x Configuration v).planes ≡ x.planes
  pub t_set : (x : Registers) (v : ℕ) → bit 4 v ≡ true → (written x Configuration v).blink ≡ 0
  pub t_clear : (x : Registers) (v : ℕ) → bit 4 v ≡ false → (written x Configuration v).blink ≡ x.blink
  -- masks can't be read; a report of keys can't be written
  pub mask_read : (x : Registers) (g : KeyGroup) → data_of x (KeyMask g) ≡ 0
  pub report_written : (x : Registers) (g : KeyGroup) (v : ℕ) → (written x (KeyDebounced g) v ≡ x) × (written x (KeyPressed g) v ≡ x)
  -- a read of any register but the debounced keys leaves all as it was; of these it leaves all but the keys
  pub left : (x : Registers) (r : Register) → ((g : KeyGroup) → r ≢ KeyDebounced g) → after_read x r ≡ x
  pub debounced_left : (x : Registers) (g : KeyGroup) → after_read x (KeyDebounced g) ≡ with_keys x (debounced_read x.keys g)
  -- 0x60+d "reads as 0x00" (Table 6)
  pub both_read : (x : Registers) (i : ℕ) → data_of x (BothPlanes i) ≡ 0
  -- unlisted addresses read 0; writes to them do nothing
  pub unlisted_written : (x : Registers) (v : ℕ) → written x Unlisted v ≡ x
  pub unlisted_read : (x : Registers) → data_of x Unlisted ≡ 0
