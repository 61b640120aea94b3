-- The examples, by computation.
-- Assumes nothing.
use Rattle.ground.proofs.Names.{refl, tabulate, Agree}
use Rattle.text.specs.Text.{digits_in}
use Rattle.wire.specs.Bits.{bits, value, unpack, byte_at, pack, word_at}
use Rattle.wire.specs.Wire.{string, words, wire, answer, shifted}
use Rattle.device.specs.Taken.{taken}
use Rattle.device.specs.Families.{takes, sound_record}
use Rattle.calls.specs.CallRefusals.{families_below, all_sound}
use Rattle.calls.specs.Outcome.{number, after}
use Rattle.printed.specs.Format.{items_after}
use Rattle.lit_time.specs.LitTime.{lit_time}
use Rattle.lit_time.specs.ScriptTime.{run_time}
use Rattle.lit_time.specs.Report.{lines_of, reported}
use Rattle.lit_time.specs.Examples.{clock_rows, script_rows, report_rows, Examples}

bench_clocks : Agree clock_rows
unfolding taken lit_time
bench_clocks = refl

bench_scripts : Agree script_rows
unfolding tabulate bits value unpack byte_at pack word_at string words wire answer shifted taken takes families_below sound_record all_sound number after items_after lit_time run_time
bench_scripts = refl

bench_reports : Agree report_rows
unfolding tabulate bits value unpack byte_at pack word_at string words wire answer shifted taken takes families_below sound_record all_sound number after items_after lit_time run_time digits_in lines_of reported
bench_reports = refl

pub examples : Examples
examples = record { clocks = bench_clocks; scripts = bench_scripts; reports = bench_reports }
