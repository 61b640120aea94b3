-- The worked examples, by one computation over each table.
-- Assumes nothing.
use Rattle.ground.proofs.Names.{refl, Agree}
use Rattle.device.specs.Families.{pinned, sound_record}
use Rattle.calls.specs.CallRefusals.{families_below, all_sound}
use Rattle.bus.specs.Straps.{place_of, distinct, seven_bits}
use Rattle.device.specs.TwoWire.{commanded, received, sent_data, sent}
use Rattle.bus.specs.BusOutcome.{number, bus_after, parts_after, reply}
use Rattle.bus.specs.BusLists.{bus_all, parts_all, replies}
use Rattle.bus.specs.BusExamples.{rows, strap_rows, number_rows, refused_rows, BusExamples}

bench_examples : Agree rows
unfolding families_below sound_record pinned all_sound place_of distinct seven_bits commanded received sent_data sent number bus_after parts_after reply bus_all parts_all replies
bench_examples = refl

bench_straps : Agree strap_rows
unfolding families_below sound_record pinned all_sound place_of distinct seven_bits commanded received sent_data sent number bus_after parts_after reply bus_all parts_all replies
bench_straps = refl

bench_numbers : Agree number_rows
unfolding families_below sound_record pinned all_sound place_of distinct seven_bits commanded received sent_data sent number bus_after parts_after reply bus_all parts_all replies
bench_numbers = refl

bench_refused : Agree refused_rows
unfolding families_below sound_record pinned all_sound place_of distinct seven_bits commanded received sent_data sent number bus_after parts_after reply bus_all parts_all replies
bench_refused = refl

pub bench : BusExamples
bench = record { examples = bench_examples; addresses = bench_straps; numbers = bench_numbers; refused = bench_refused }
