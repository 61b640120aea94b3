-- The examples, by computation.
-- Assumes nothing.
use Rattle.ground.proofs.Names.{refl, Agree}
use Rattle.device.specs.Taken.{taken}
use Rattle.look_back.specs.Stops.{last_place}
use Rattle.look_back.specs.Examples.{rows, answer_rows, Examples}

bench_rows : Agree rows
unfolding taken last_place
bench_rows = refl

bench_answers : Agree answer_rows
unfolding taken
bench_answers = refl

pub examples : Examples
examples = record { stopped = bench_rows; answered = bench_answers }
