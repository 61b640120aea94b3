-- The bench examples, by one computation over their table, and those of numbers, answers, answer marks, the planner, the look back and both families.
-- Assumes nothing.
use Rattle.ground.proofs.Names.{true, [], ◌∷◌, ◌≡◌, true≢false, sym, refl, replicate, tabulate, Agree}
use Rattle.wire.specs.Bits.{bits, value, unpack, byte_at, pack, word_at}
use Rattle.wire.specs.Wire.{string, words, wire, answer, shifted}
use Rattle.device.specs.Taken.{taken}
use Rattle.device.specs.Families.{takes, pinned, sound_record}
use Rattle.port_registers.specs.Levels.{upper_bits, directions, levels}
use Rattle.port_registers.specs.PortRegisters.{replaced}
use Rattle.port_registers.specs.PortTaken.{settled, taken as port_taken, pinned as port_pinned}
use Rattle.port_states.specs.PortStates.{states_of}
use Rattle.plans.specs.Words.{every}
use Rattle.plans.specs.Check.{below, same, accepted_words, accepted_list}
use Rattle.plans.specs.Least.{total}
use Rattle.plans.specs.Plan.{steps, plan_by, largest, accesses, planned}
use Rattle.calls.specs.CallRefusals.{families_below, all_sound}
use Rattle.calls.specs.Outcome.{number, after, reply}
use Rattle.calls.specs.CallLists.{after_all, numbers, replies}
use Rattle.calls.specs.Isolation.{AllFull}
use Rattle.calls.specs.NextAccess.{NoAccess}
use Rattle.calls.specs.AnswerMark.{none_decides}
use Rattle.calls.specs.BenchTable.{access_of, table}
use Rattle.calls.specs.OutputExamples.{shown_rows, pin_rows, brightness_rows, interrupt_rows, step_rows, OutputExamples}
use Rattle.calls.specs.Examples.{mixed, others, number_rows, answer_rows, mark_rows, plan_rows, look_back_rows, family_rows, Examples}

bench : Agree table
unfolding port_taken port_pinned settled levels directions upper_bits replaced states_of tabulate bits value unpack byte_at pack word_at string words wire answer shifted taken takes families_below sound_record pinned all_sound number after reply after_all numbers replies
bench = refl

bench_numbers : Agree number_rows
unfolding tabulate families_below sound_record pinned all_sound number
bench_numbers = refl

bench_answers : Agree answer_rows
unfolding tabulate taken takes families_below sound_record pinned all_sound number after reply after_all
bench_answers = refl

bench_shown : Agree shown_rows
unfolding tabulate taken families_below sound_record all_sound number reply
bench_shown = refl

bench_pins : Agree pin_rows
unfolding tabulate taken families_below sound_record all_sound number reply
bench_pins = refl

bench_brightness : Agree brightness_rows
unfolding taken families_below sound_record all_sound number reply
bench_brightness = refl

bench_interrupts : Agree interrupt_rows
unfolding taken families_below sound_record all_sound number after reply after_all
bench_interrupts = refl

bench_steps : Agree step_rows
unfolding taken families_below sound_record pinned all_sound number after after_all
bench_steps = refl

outputs : OutputExamples
outputs = record { shown = bench_shown; pins = bench_pins; bright = bench_brightness; interrupts = bench_interrupts; stepped = bench_steps }

bench_marks : Agree mark_rows
unfolding bits value unpack byte_at pack word_at string words wire answer shifted taken takes tabulate families_below sound_record pinned all_sound number after reply after_all
bench_marks = refl

bench_plans : Agree plan_rows
unfolding tabulate total steps plan_by largest accesses planned below same every accepted_words accepted_list taken takes families_below sound_record pinned all_sound number reply
bench_plans = refl

bench_looks : Agree look_back_rows
unfolding taken takes families_below sound_record pinned all_sound number reply
bench_looks = refl

bench_families : Agree family_rows
unfolding port_taken port_pinned settled levels directions upper_bits replaced states_of tabulate bits value unpack byte_at pack word_at string words wire answer shifted taken takes families_below sound_record pinned all_sound number after reply after_all replies
bench_families = refl

bench_full : AllFull 2 (0 ∷ 1 ∷ []) (access_of 32 (replicate 4 0x55) ∷ others)
unfolding AllFull families_below
bench_full = ((λ e. refl), ((λ e. absurd (true≢false (sym e))), (tt, (tt, (tt, tt)))))

bench_no_access : NoAccess 2 (0 ∷ 1 ∷ []) others
unfolding NoAccess families_below
bench_no_access = (refl, tt)

bench_none_decides : none_decides others mixed ≡ true
unfolding none_decides port_pinned settled levels directions upper_bits families_below sound_record pinned all_sound number after
bench_none_decides = refl

pub examples : Examples
examples = record { full = bench_full; no_access = bench_no_access; none_decides = bench_none_decides; bench = bench; numbers = bench_numbers; answers = bench_answers; outputs = outputs; marked = bench_marks; planned = bench_plans; looked_back = bench_looks; families = bench_families }
