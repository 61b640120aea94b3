-- `lit_time_code::cathode_times` meets its contract. The invariant: d times are written. Assumes nothing.
use Rattle.ground.proofs.Names.{◌<◌, Filled}
use Rattle.lit_time.specs.LitTime.{lit_time}
use Rattle.lit_time.specs.Closed.{p0_of, time_by}
use Rattle.lit_time_code.proofs.cathode_times.Given as goal

abbrev pub invariant-loop-d : goal.invariant-loop-d
invariant-loop-d l = Filled 8 (λ e. time_by l.device e l.font14 l.font16 l.clocks (p0_of l.device l.clocks)) l.initial.times l.times l.d × (l.device.registers.blink < 4000000 → Filled 8 (λ e. lit_time l.device e l.font14 l.font16 l.clocks) l.initial.times l.times l.d)
