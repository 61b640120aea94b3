-- The examples of the display, by computation.
-- Assumes nothing.
use Rattle.ground.proofs.Names.{refl, Agree}
use Rattle.device.specs.Taken.{taken}
use Rattle.display.specs.Examples.{rows, WireExamples, segment_rows, Examples}

bench : Agree rows
unfolding taken
bench = refl

bench_wires : WireExamples
bench_wires = refl

bench_segments : Agree segment_rows
unfolding taken
bench_segments = refl

pub examples : Examples
examples = record { bench = bench; wires = bench_wires; segments = bench_segments }
