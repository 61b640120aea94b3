-- The document's script, the first line's cases and the other lines, by computation.
-- Assumes nothing.
use Rattle.ground.proofs.Names.{refl, tabulate, Agree}
use Rattle.wire.specs.Bits.{bits, value, unpack, byte_at, pack, word_at}
use Rattle.wire.specs.Wire.{string, words, wire, answer, shifted}
use Rattle.device.specs.Taken.{taken}
use Rattle.device.specs.Families.{takes, pinned, sound_record}
use Rattle.calls.specs.CallRefusals.{families_below, all_sound}
use Rattle.calls.specs.Outcome.{number, after, reply}
use Rattle.text.specs.Text.{each}
use Rattle.printed.specs.Format.{items_after}
use Rattle.printed.specs.Script.{run_lines, printed}
use Rattle.printed.specs.Examples.{letter_rows, answer_rows, rows, line_rows, scan_rows, mark_rows, assumed_rows, malformed_rows, Printed, Examples}

bench_letters : Agree letter_rows
unfolding each
bench_letters = refl

bench_answers : Agree answer_rows
unfolding each
bench_answers = refl

bench : Printed rows
unfolding tabulate bits value unpack byte_at pack word_at string words wire answer shifted taken takes pinned families_below sound_record all_sound number after reply each items_after run_lines printed
bench = refl

bench_lines : Printed line_rows
unfolding tabulate bits value unpack byte_at pack word_at string words wire answer shifted taken takes pinned families_below sound_record all_sound number after reply each items_after run_lines printed
bench_lines = refl

bench_scans : Printed scan_rows
unfolding tabulate bits value unpack byte_at pack word_at string words wire answer shifted taken takes pinned families_below sound_record all_sound number after reply each items_after run_lines printed
bench_scans = refl

bench_marks : Printed mark_rows
unfolding tabulate bits value unpack byte_at pack word_at string words wire answer shifted taken takes pinned families_below sound_record all_sound number after reply each items_after run_lines printed
bench_marks = refl

bench_assumed : Printed assumed_rows
unfolding tabulate bits value unpack byte_at pack word_at string words wire answer shifted taken takes pinned families_below sound_record all_sound number after reply each items_after run_lines printed
bench_assumed = refl

bench_malformed : Printed malformed_rows
unfolding tabulate bits value unpack byte_at pack word_at string words wire answer shifted taken takes pinned families_below sound_record all_sound number after reply each items_after run_lines printed
bench_malformed = refl

pub examples : Examples
examples = record { letters = bench_letters; answers = bench_answers; bench = bench; lines = bench_lines; scans = bench_scans; marked = bench_marks; assumed = bench_assumed; malformed = bench_malformed }
