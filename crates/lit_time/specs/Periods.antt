-- Believed: document 02, request 13: clocks in parts, a whole period of the blink count, and the most that clocks add.
-- Assumes nothing.
use Rattle.std.specs.Prelude.{ℕ, ◌+◌, ◌*◌, ◌<◌, ◌≤◌, List, ◌≡◌}
use Rattle.device.specs.Record.{with_blink}
use Rattle.device.specs.Steps.{clocked}
use Rattle.device.specs.declared.Device.{Device}
use Rattle.lit_time.specs.LitTime.{cathode_time, lit_time}

-- for a driver whose blink count is below a cycle
pub record Periods : Type 0 where
  -- "also inside one record": clocks of a and then b are those of a + b
  pub in_parts : (x : Device) (d : ℕ) (font14 font16 : List ℕ) (a b : ℕ) → x.registers.blink < 4000000
      → lit_time x d font14 font16 (a + b) ≡ lit_time x d font14 font16 a + lit_time (clocked x a) d font14 font16 b
  -- a whole cycle is half and half of what is shown at the counts 0 and 3,000,000: P0 and P1 where the driver blinks, at either rate
  pub period : (x : Device) (d : ℕ) (font14 font16 : List ℕ) → x.registers.blink < 4000000
      → lit_time x d font14 font16 4000000 ≡ 2000000 * cathode_time (with_blink x 0) d font14 font16 + 2000000 * cathode_time (with_blink x 3000000) d font14 font16
  -- a clock adds at most 17 segments at 15 sixteenths
  pub most : (x : Device) (d : ℕ) (font14 font16 : List ℕ) (k : ℕ) → lit_time x d font14 font16 k ≤ 255 * k
