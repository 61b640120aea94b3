-- Believed: document 01, "Bench examples" in their one table, "Numbers a call may give", 1 to 7, and what calls give back; document 02, requests
-- 1, 2, 6, 8 and 9: what the definitions give beside what the documents say.
-- Assumes nothing.
use Rattle.std.specs.Prelude.{ℕ, ◌*◌, true, List, [], ◌∷◌, ◌++◌, map, ◌≡◌, replicate}
use Rattle.ground.specs.Lists.{tabulate, Agree}
use Rattle.port_registers.specs.PortRecord.{with_pins as with_levels}
use Rattle.device.specs.PowerUp.{power_up, power_up6957, fresh_chain}
use Rattle.device.specs.Record.{with_pins, with_blink, with_shift, with_mark, with_command, with_ports, with_family}
use Rattle.device.specs.Taken.{taken}
use Rattle.device.specs.declared.Device.{Device}
use Rattle.calls.specs.Calls.{scan, levels, clocks, Question, plane, plane_shown, segments, brightness, shown, interrupt, answer_mark, look_back, ports, plan, plan_check, Call, access, give, ask, ask_chain}
use Rattle.calls.specs.Served.{record_of}
use Rattle.calls.specs.Outcome.{number, reply}
use Rattle.calls.specs.CallLists.{after_all, replies}
use Rattle.calls.specs.Isolation.{AllFull}
use Rattle.calls.specs.NextAccess.{NoAccess}
use Rattle.calls.specs.AnswerMark.{marks, none_decides}
use Rattle.calls.specs.BenchTable.{access_of, joined, state_of, table}
use Rattle.calls.specs.OutputExamples.{lent, other, OutputExamples}

-- a glyph table
abbrev pub font : List ℕ
font = replicate 128 0

-- the number of a question to driver 1 of one
abbrev pub asked : Question → ℕ
asked q = number (ask 1 q) (fresh_chain 1)

-- the numbers of a part of lent planes, and of which of them it is
abbrev pub asked_part : List ℕ → List ℕ → ℕ → ℕ → List ℕ
asked_part p0 p1 first last = asked (plane p0 p1 first last) ∷ asked (plane_shown p0 p1 first last) ∷ []

-- the number of pin levels for driver 1 of a chain
abbrev pub given : List Device → ℕ → ℕ
given ds l = number (give 1 (levels l)) ds

-- "Numbers a call may give"
abbrev pub number_rows : List (List ℕ × List ℕ)
number_rows =
    -- 1: the chain has 0 or more than 16 records
    (map (λ n. number (ask 1 interrupt) (fresh_chain n)) (0 ∷ 1 ∷ 16 ∷ 17 ∷ []), 1 ∷ 0 ∷ 0 ∷ 1 ∷ [])
    -- 2: driver number not in 1..n
    ∷ (map (λ j. number (ask j interrupt) (fresh_chain 2)) (0 ∷ 1 ∷ 2 ∷ 3 ∷ []), 2 ∷ 0 ∷ 0 ∷ 2 ∷ [])
    -- 4: sent bytes fewer than the clocks need, 5: room for answer bytes fewer
    ∷ (
      number (access 16 (4 ∷ []) (0 ∷ 0 ∷ [])) (fresh_chain 1) ∷ number (access 16 (4 ∷ 1 ∷ []) (0 ∷ [])) (fresh_chain 1) ∷ number (access 17 (4 ∷ 1 ∷ []) (0 ∷ 0 ∷ 0 ∷ [])) (fresh_chain 1) ∷ [],
      4 ∷ 5 ∷ 4 ∷ [],
    )
    -- 6: cathode above 7, pin levels above 31, a digit above 15, alone or in a range, a range's last digit below its first
    ∷ (map (λ d. asked (segments d font font)) (7 ∷ 8 ∷ []), 0 ∷ 6 ∷ [])
    ∷ (map (given (fresh_chain 1)) (0 ∷ 16 ∷ 31 ∷ 32 ∷ []), 0 ∷ 0 ∷ 0 ∷ 6 ∷ [])
    ∷ (map (λ i. asked (brightness i)) (15 ∷ 16 ∷ []), 0 ∷ 6 ∷ [])
    ∷ (joined (map (asked_part lent lent 5) (4 ∷ 5 ∷ 15 ∷ 16 ∷ [])), 6 ∷ 6 ∷ 0 ∷ 0 ∷ 0 ∷ 0 ∷ 6 ∷ 6 ∷ [])
    -- a lent plane not 16 long, or a glyph table not 128 long
    ∷ (joined (map (λ n. asked_part (replicate n 0) lent 0 0) (15 ∷ 16 ∷ 17 ∷ [])), 6 ∷ 6 ∷ 0 ∷ 0 ∷ 6 ∷ 6 ∷ [])
    ∷ (joined (map (λ n. asked_part lent (replicate n 0) 0 0) (15 ∷ 16 ∷ 17 ∷ [])), 6 ∷ 6 ∷ 0 ∷ 0 ∷ 6 ∷ 6 ∷ [])
    ∷ (map (λ n. asked (segments 0 (replicate n 0) font)) (127 ∷ 128 ∷ 129 ∷ []), 6 ∷ 0 ∷ 6 ∷ [])
    ∷ (map (λ n. asked (segments 0 font (replicate n 0))) (127 ∷ 128 ∷ 129 ∷ []), 6 ∷ 0 ∷ 6 ∷ [])
    -- 7: some record isn't sound, here of six pin levels, or a blink count of 4,000,000
    ∷ (map (λ l. number (ask 1 interrupt) (power_up ∷ with_pins power_up l ∷ [])) (31 ∷ 32 ∷ []), 0 ∷ 7 ∷ [])
    ∷ (map (λ k. number (ask 1 interrupt) (with_blink power_up k ∷ [])) (3999999 ∷ 4000000 ∷ []), 0 ∷ 7 ∷ [])
    -- or an answer mark above 1
    ∷ (map (λ m. number (ask 1 interrupt) (with_mark power_up m ∷ [])) (0 ∷ 1 ∷ 2 ∷ []), 0 ∷ 0 ∷ 7 ∷ [])
    -- the lowest that applies is given: 1 and 2, 2 and 6, 3 and 4, 4 and 5, 6 and 7
    ∷ (
      given (fresh_chain 0) 0
          ∷ number (give 2 (levels 32)) (fresh_chain 1)
          ∷ number (access 4097 [] []) (fresh_chain 1)
          ∷ number (access 16 [] []) (fresh_chain 1)
          ∷ given (with_pins power_up 32 ∷ []) 32
          ∷ given (with_pins power_up 32 ∷ []) 31
          ∷ [],
      1 ∷ 2 ∷ 3 ∷ 4 ∷ 6 ∷ 7 ∷ [],
    )
    ∷ []

-- what calls give back, served or refused
abbrev pub answer_rows : List (List ℕ × List ℕ)
answer_rows =
    -- "Blink": digits 2 to 4, both included, of the plane now shown, and one digit alone
    (reply (ask 1 (plane lent other 2 4)) (fresh_chain 1), 2 ∷ 3 ∷ 4 ∷ [])
    ∷ (reply (ask 1 (plane lent other 2 4)) (with_blink (taken power_up 0x0409) 2000000 ∷ []), 18 ∷ 19 ∷ 20 ∷ [])
    ∷ (reply (ask 1 (plane lent other 15 15)) (fresh_chain 1), 15 ∷ [])
    -- refused: an answer that would hold a number holds 0, a segment answer has no pin driven, a returned part is empty
    ∷ (reply (ask 1 (brightness 16)) (fresh_chain 1) ++ reply (ask 2 shown) (fresh_chain 1) ++ reply (ask 2 interrupt) (fresh_chain 1) ++ reply (ask 2 answer_mark) (with_mark power_up 1 ∷ []), 0 ∷ 0 ∷ 0 ∷ 0 ∷ 0 ∷ [])
    ∷ (reply (ask 1 (segments 8 font font)) (fresh_chain 1), replicate 19 0)
    ∷ (reply (ask 1 (plane lent lent 5 4)) (fresh_chain 1) ++ reply (ask 1 (plane_shown lent lent 5 4)) (fresh_chain 1), 0 ∷ [])
    -- nothing changes: neither the room nor the record
    ∷ (reply (access 16 (0x03 ∷ []) (0xEE ∷ 0xEE ∷ [])) (fresh_chain 1), 0xEE ∷ 0xEE ∷ [])
    ∷ (state_of (access 16 (0x03 ∷ 0x03 ∷ []) (0xEE ∷ []) ∷ []) (fresh_chain 1) 1, 0 ∷ 0 ∷ 7 ∷ [])
    ∷ []

-- the answer mark of driver 1 of one after calls
abbrev pub mark_after : List Call → List ℕ
mark_after qs = reply (ask 1 answer_mark) (after_all qs (fresh_chain 1))

-- document 02, request 1
abbrev pub mark_rows : List (List ℕ × List ℕ)
mark_rows =
    -- at power-up it is 0; 0401 clears it, 8400 sets it, 0000 clears it
    (
      mark_after [] ++ mark_after (access_of 16 (0x04 ∷ 0x01 ∷ []) ∷ []) ++ mark_after (access_of 16 (0x84 ∷ 0x00 ∷ []) ∷ []) ++ mark_after (access_of 16 (0x84 ∷ 0x00 ∷ []) ∷ access_of 16 (0x00 ∷ 0x00 ∷ []) ∷ []),
      0 ∷ 0 ∷ 1 ∷ 0 ∷ [],
    )
    -- a read of any address sets it: the no-op's, and an unlisted one
    ∷ (mark_after (access_of 16 (0x80 ∷ 0x00 ∷ []) ∷ []) ++ mark_after (access_of 16 (0xFF ∷ 0xFF ∷ []) ∷ []), 1 ∷ 1 ∷ [])
    -- a scan leaves it
    ∷ (mark_after (access_of 16 (0x84 ∷ 0x00 ∷ []) ∷ give 1 (scan 1 0 0 0) ∷ []), 1 ∷ [])
    -- at 0 clocks each driver takes the word that stands in its shift register, here 0000 and 8203
    ∷ (
      marks (after_all (access_of 0 [] ∷ []) (with_mark power_up 1 ∷ with_shift power_up 0x8203 ∷ [])),
      0 ∷ 1 ∷ [],
    )
    -- n=2: 8400 for driver 2, 0401 for driver 1
    ∷ (marks (after_all (access_of 32 (0x84 ∷ 0x00 ∷ 0x04 ∷ 0x01 ∷ []) ∷ []) (fresh_chain 2)), 0 ∷ 1 ∷ [])
    ∷ []

-- request 9: digit 3 of plane 1 of driver 2 of two
abbrev pub looked_back : List ℕ → List ℕ
looked_back ws = reply (ask 2 (look_back 1 3 ws)) (power_up ∷ taken power_up 0x4311 ∷ [])

-- its numbers and answers
abbrev pub look_back_rows : List (List ℕ × List ℕ)
look_back_rows =
    -- 6: a plane above 1, a digit above 15
    (map (λ p. asked (look_back p 0 [])) (0 ∷ 1 ∷ 2 ∷ []), 0 ∷ 0 ∷ 6 ∷ [])
    ∷ (map (λ i. asked (look_back 0 i [])) (15 ∷ 16 ∷ []), 0 ∷ 6 ∷ [])
    -- 1 and 2 before 6, 6 before 7
    ∷ (
      number (ask 1 (look_back 2 0 [])) (fresh_chain 0)
          ∷ number (ask 2 (look_back 2 0 [])) (fresh_chain 1)
          ∷ map (λ p. number (ask 1 (look_back p 0 [])) (with_pins power_up 32 ∷ [])) (1 ∷ 2 ∷ []),
      1 ∷ 2 ∷ 7 ∷ 6 ∷ [],
    )
    -- the byte written last, 0 after a clear, the record's where no word decides it
    ∷ (looked_back (0x4301 ∷ 0x6302 ∷ 0x2303 ∷ []) ++ looked_back (0x4301 ∷ 0x0420 ∷ []) ++ looked_back (0x2303 ∷ 0xC300 ∷ []), 0x02 ∷ 0x00 ∷ 0x11 ∷ [])
    -- refused: 0
    ∷ (reply (ask 1 (look_back 0 16 (0x2001 ∷ []))) (fresh_chain 1) ++ reply (ask 3 (look_back 1 3 (0x4301 ∷ []))) (fresh_chain 2), 0 ∷ 0 ∷ [])
    ∷ []

-- request 6: a planner's call that wants all planes 0, with room for as many words
abbrev pub clearing : ℕ → List ℕ → Call
clearing n room = ask_chain (plan (replicate (32 * n) 0) room)

-- the planner's numbers and answers
abbrev pub plan_rows : List (List ℕ × List ℕ)
plan_rows =
    -- 12: wanted contents not 32 bytes a driver
    (map (λ k. number (ask_chain (plan_check (replicate k 0) [])) (fresh_chain 2)) (0 ∷ 63 ∷ 64 ∷ 65 ∷ []), 12 ∷ 12 ∷ 0 ∷ 12 ∷ [])
    ∷ (map (λ k. number (ask_chain (plan (replicate k 0) (replicate 64 0))) (fresh_chain 2)) (0 ∷ 63 ∷ 64 ∷ 65 ∷ []), 12 ∷ 12 ∷ 0 ∷ 12 ∷ [])
    -- 13: room too small for the shortest list, here of one access
    ∷ (map (λ k. number (clearing 2 (replicate k 0)) (fresh_chain 2)) (0 ∷ 1 ∷ 2 ∷ 3 ∷ []), 13 ∷ 13 ∷ 0 ∷ 0 ∷ [])
    -- 1 before 12 and 13, 7 before 12 and 13, 12 before 13
    ∷ (
      map (λ ds. number (ask_chain (plan (0 ∷ []) [])) ds) (fresh_chain 0 ∷ fresh_chain 17 ∷ (with_pins power_up 32 ∷ []) ∷ fresh_chain 1 ∷ []),
      1 ∷ 1 ∷ 7 ∷ 12 ∷ [],
    )
    ∷ (map (λ ds. number (clearing 1 []) ds) ((with_pins power_up 32 ∷ []) ∷ fresh_chain 1 ∷ []), 7 ∷ 13 ∷ [])
    ∷ (
      map (λ ds. number (ask_chain (plan_check (0 ∷ []) [])) ds) (fresh_chain 0 ∷ fresh_chain 17 ∷ (with_pins power_up 32 ∷ []) ∷ fresh_chain 1 ∷ []),
      1 ∷ 1 ∷ 7 ∷ 12 ∷ [],
    )
    -- served: one access, the clear for each driver, and the room after it stays
    ∷ (reply (clearing 2 (0xAAAA ∷ 0xBBBB ∷ 0xCCCC ∷ [])) (fresh_chain 2), 1 ∷ 0x0420 ∷ 0x0420 ∷ 0xCCCC ∷ [])
    -- refused: no access, and no word changes
    ∷ (reply (clearing 1 (0xAAAA ∷ 0xBBBB ∷ [])) (fresh_chain 2), 0 ∷ 0xAAAA ∷ 0xBBBB ∷ [])
    ∷ (reply (clearing 2 (0xAAAA ∷ [])) (fresh_chain 2), 0 ∷ 0xAAAA ∷ [])
    -- the check: accepted, not accepted, refused
    ∷ (reply (ask_chain (plan_check (replicate 32 0) (0x0420 ∷ []))) (fresh_chain 1), 1 ∷ [])
    ∷ (reply (ask_chain (plan_check (replicate 32 0) [])) (fresh_chain 1), 0 ∷ [])
    ∷ (reply (ask_chain (plan_check (replicate 31 0) (0x0420 ∷ []))) (fresh_chain 1), 0 ∷ [])
    ∷ []

-- request 8: a MAX6954, and a MAX6957 behind it
abbrev pub mixed : List Device
mixed = power_up ∷ power_up6957 ∷ []

-- a driver of an unknown family, none of whose fields fits
abbrev pub stranger : Device
stranger = with_family (with_ports (with_mark (with_pins power_up 32) 2) (with_levels power_up.ports 0x10000000)) 2

-- the numbers of everything that a driver may be given or asked
abbrev pub each_number : ℕ → List Device → List ℕ
each_number j ds =
    map (λ st. number (give j st) ds) (scan 0 0 0 0 ∷ levels 0 ∷ clocks 0 ∷ [])
    ++ map (λ q. number (ask j q) ds) (plane lent lent 0 0 ∷ plane_shown lent lent 0 0 ∷ segments 0 font font ∷ brightness 0 ∷ shown ∷ interrupt ∷ answer_mark ∷ look_back 0 0 [] ∷ ports ∷ [])

-- words taken, the first of them driver 2's
abbrev pub two_words : ℕ → ℕ → ℕ → ℕ → Call
two_words a b c d = access_of 32 (a ∷ b ∷ c ∷ d ∷ [])

-- numbers, answers and outputs of a chain that mixes both families
abbrev pub family_rows : List (List ℕ × List ℕ)
family_rows =
    -- one word has a meaning in each family: 0x02, and 0x20, which is a virtual port
    (
      joined (replies (two_words 0x02 0x03 0x02 0x05 ∷ two_words 0x82 0x00 0x82 0x00 ∷ two_words 0x20 0x07 0x20 0x07 ∷ two_words 0xA0 0x00 0xA0 0x00 ∷ two_words 0x00 0x00 0x00 0x00 ∷ []) mixed),
      0x00 ∷ 0x00 ∷ 0x00 ∷ 0x00 ∷ 0x02 ∷ 0x03 ∷ 0x02 ∷ 0x05 ∷ 0x82 ∷ 0x03 ∷ 0x82 ∷ 0x05 ∷ 0x20 ∷ 0x07 ∷ 0x20 ∷ 0x07 ∷ 0xA0 ∷ 0x00 ∷ 0xA0 ∷ 0x07 ∷ [],
    )
    -- 6: pin levels above 31 of the old family, over 28 bits of a MAX6957
    ∷ (map (λ l. number (give 1 (levels l)) mixed) (31 ∷ 32 ∷ []) ++ map (λ l. number (give 2 (levels l)) mixed) (32 ∷ 0xFFFFFFF ∷ 0x10000000 ∷ []), 0 ∷ 6 ∷ 0 ∷ 0 ∷ 6 ∷ [])
    -- 14: what each family lacks, and nothing else
    ∷ (each_number 1 mixed, 0 ∷ 0 ∷ 0 ∷ 0 ∷ 0 ∷ 0 ∷ 0 ∷ 0 ∷ 0 ∷ 0 ∷ 0 ∷ 14 ∷ [])
    ∷ (each_number 2 mixed, 14 ∷ 0 ∷ 14 ∷ 14 ∷ 14 ∷ 14 ∷ 14 ∷ 14 ∷ 0 ∷ 0 ∷ 14 ∷ 0 ∷ [])
    -- 2 and 6 before it: brightness of digit 16, the ports of driver 3
    ∷ (number (ask 2 (brightness 15)) mixed ∷ number (ask 2 (brightness 16)) mixed ∷ number (ask 3 ports) mixed ∷ [], 14 ∷ 6 ∷ 2 ∷ [])
    -- the planner and its check, where any driver is a MAX6957: before 12 and 13
    ∷ (
      map (λ k. number (ask_chain (plan (replicate k 0) [])) mixed) (63 ∷ 64 ∷ []) ++ map (λ k. number (ask_chain (plan_check (replicate k 0) [])) mixed) (63 ∷ 64 ∷ []),
      14 ∷ 14 ∷ 14 ∷ 14 ∷ [],
    )
    -- a family unknown in any record: every call; 7 and the pin limit don't test that record
    ∷ (number (access_of 32 (0 ∷ 0 ∷ 0 ∷ 0 ∷ [])) (stranger ∷ power_up6957 ∷ []) ∷ [], 14 ∷ [])
    ∷ (each_number 1 (stranger ∷ power_up6957 ∷ []) ++ each_number 1 (power_up ∷ stranger ∷ []), replicate 24 14)
    ∷ (map (λ j. number (give j (levels 0xFFFFFFFF)) (stranger ∷ power_up6957 ∷ [])) (1 ∷ 2 ∷ []), 14 ∷ 6 ∷ [])
    ∷ (number (ask_chain (plan (replicate 64 0) [])) (power_up ∷ stranger ∷ []) ∷ [], 14 ∷ [])
    -- 1, 4 and 7 before it: 7 by another record
    ∷ (
      number (ask 1 interrupt) (stranger ∷ fresh_chain 16) ∷ number (access 32 (0 ∷ []) (replicate 4 0)) (stranger ∷ power_up6957 ∷ []) ∷ number (access_of 48 (replicate 6 0)) (stranger ∷ with_pins power_up 32 ∷ power_up6957 ∷ []) ∷ [],
      1 ∷ 4 ∷ 7 ∷ [],
    )
    -- 7 before the planner's and a question's 14
    ∷ (map (λ d. number (ask_chain (plan_check [] [])) (d ∷ power_up6957 ∷ [])) (power_up ∷ with_pins power_up 32 ∷ []) ++ map (λ d. number (ask 2 shown) (d ∷ power_up6957 ∷ [])) (power_up ∷ with_pins power_up 32 ∷ []), 14 ∷ 7 ∷ 14 ∷ 7 ∷ [])
    -- 7: a record is tested by its own family's fields, and the answer mark; the command address of the old family alone
    ∷ (
      map (λ d. number (ask 1 interrupt) (d ∷ [])) (with_pins power_up6957 32 ∷ with_command power_up6957 128 ∷ with_mark power_up6957 2 ∷ with_ports power_up6957 (with_levels power_up.ports 0x10000000) ∷ with_ports power_up (with_levels power_up.ports 0x10000000) ∷ with_command power_up 128 ∷ []),
      0 ∷ 0 ∷ 7 ∷ 7 ∷ 0 ∷ 7 ∷ [],
    )
    -- the ports of driver 2 after 0401, 0955, 4005: P4 and P6 high, P5 and P7 low; refused: 28 times undriven
    ∷ (
      reply (ask 2 ports) (after_all (two_words 0x04 0x01 0 0 ∷ two_words 0x09 0x55 0 0 ∷ two_words 0x40 0x05 0 0 ∷ []) mixed),
      2 ∷ 1 ∷ 2 ∷ 1 ∷ replicate 24 0,
    )
    ∷ (reply (ask 1 ports) mixed, replicate 28 0)
    -- driver 2 watches P24: its pin raises INT, and the interrupt of driver 1 stays
    ∷ (
      joined (map (λ j. reply (ask j interrupt) (after_all (two_words 0x06 0x01 0 0 ∷ two_words 0x04 0x81 0 0 ∷ give 2 (levels 0x100000) ∷ []) mixed)) (1 ∷ 2 ∷ [])),
      0 ∷ 1 ∷ [],
    )
    -- the mark of a read, and of a write
    ∷ (marks (after_all (two_words 0x84 0x00 0x04 0x01 ∷ []) mixed) ++ marks (after_all (two_words 0x04 0x00 0x84 0x00 ∷ []) mixed), 0 ∷ 1 ∷ 1 ∷ 0 ∷ [])
    ∷ []

-- calls of every kind on two drivers, of which the access is refused
abbrev pub others : List Call
others = access 16 [] [] ∷ give 1 (levels 3) ∷ ask 3 shown ∷ ask_chain (plan_check [] []) ∷ []

-- what the definitions give is what the documents say
pub record Examples : Type 0 where
  -- lists that isolation, the next access and the answer mark speak of
  pub full : AllFull 2 (0 ∷ 1 ∷ []) (access_of 32 (replicate 4 0x55) ∷ others)
  pub no_access : NoAccess 2 (0 ∷ 1 ∷ []) others
  pub none_decides : none_decides others mixed ≡ true
  pub bench : Agree table
  pub numbers : Agree number_rows
  pub answers : Agree answer_rows
  pub outputs : OutputExamples
  pub marked : Agree mark_rows
  pub planned : Agree plan_rows
  pub looked_back : Agree look_back_rows
  pub families : Agree family_rows
