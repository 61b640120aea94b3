-- Believed: document 02, request 13: the lit time of some drivers, and the totals, numbers and reports of some scripts, beside what the document says.
-- Assumes nothing.
use Rattle.std.specs.Prelude.{ℕ, List, [], ◌∷◌, ◌++◌, map, length}
use Rattle.ground.specs.Lists.{Agree}
use Rattle.device.specs.PowerUp.{power_up}
use Rattle.device.specs.Record.{with_fitted}
use Rattle.device.specs.Steps.{clocked}
use Rattle.device.specs.Table15.{after_words}
use Rattle.device.specs.declared.Device.{Device}
use Rattle.printed.specs.ByteByByte.{entry}
use Rattle.printed.specs.Examples.{chain_record, access_record}
use Rattle.lit_time.specs.LitTime.{lit_time}
use Rattle.lit_time.specs.Answer.{drivers_of, total_at, lit_number}
use Rattle.lit_time.specs.Report.{total_line, reported}

-- a driver with a 7-segment pair at cathode 0: digit 0 shows A. in plane P0, seven segments, and b in plane P1, five; digit 0a shows 0, six
abbrev pub shows : List ℕ → Device
shows words = after_words power_up (0x208A ∷ 0x400B ∷ 0x4800 ∷ words)

-- the lit time of cathode 0 over clocks
abbrev pub times : Device → List ℕ → List ℕ
times x ks = map (λ k. lit_time x 0 [] [] k) ks

-- lit times clock by clock
abbrev pub clock_rows : List (List ℕ × List ℕ)
clock_rows =
    -- E=1, slow, at count 1,999,999: the first clock is P0's, the second P1's: each clock counts before it is added
    (times (clocked (shows (0x0409 ∷ [])) 1999999) (0 ∷ 1 ∷ 2 ∷ 3 ∷ []), 0 ∷ 13 ∷ 24 ∷ 35 ∷ [])
    -- at 3,999,999 the period ends
    ∷ (times (clocked (shows (0x0409 ∷ [])) 3999999) (1 ∷ 2 ∷ []), 11 ∷ 24 ∷ [])
    -- B=1: halves of 1,000,000
    ∷ (times (clocked (shows (0x040D ∷ [])) 999999) (1 ∷ 2 ∷ []), 13 ∷ 24 ∷ [])
    ∷ (times (clocked (shows (0x040D ∷ [])) 1999999) (1 ∷ 2 ∷ []), 11 ∷ 24 ∷ [])
    -- E=0: P0 at every clock
    ∷ (times (clocked (shows (0x0401 ∷ [])) 1999999) (1 ∷ 2 ∷ []), 13 ∷ 26 ∷ [])
    -- a pair uses each digit's own brightness: digit 0 has 3 sixteenths, digit 0a 5
    ∷ (times (shows (0x0441 ∷ 0x1002 ∷ 0x1404 ∷ [])) (1 ∷ []), 51 ∷ [])
    -- dark in shutdown, and above the scan limit
    ∷ (times (shows []) (1 ∷ 2 ∷ []), 0 ∷ 0 ∷ [])
    ∷ (map (λ d. lit_time (shows (0x0401 ∷ 0x0300 ∷ [])) d [] [] 1) (0 ∷ 1 ∷ []), 13 ∷ 0 ∷ [])
    -- display test: every segment of the configured display at 7, of a pair 16, of a 14-segment digit 15, of a 16-segment digit 17, shutdown or not
    ∷ (times (shows (0x0701 ∷ [])) (1 ∷ 2 ∷ []), 112 ∷ 224 ∷ [])
    ∷ (times (shows (0x0701 ∷ 0x0C01 ∷ [])) (1 ∷ []), 105 ∷ [])
    ∷ (times (after_words (with_fitted power_up 0) (0x0701 ∷ [])) (1 ∷ []), 119 ∷ [])
    -- dp of a 14-segment digit counts; a word's bits 14 and 10 are none of its segments
    ∷ (map (λ w. lit_time (after_words power_up (0x0401 ∷ 0x0C01 ∷ 0x2080 ∷ [])) 0 (w ∷ []) [] 1) (0 ∷ 0x4400 ∷ 0xFFFF ∷ []), 1 ∷ 1 ∷ 15 ∷ [])
    ∷ []

-- a clocks record: driver, and fewer than 256 clocks
abbrev pub clocks_record : ℕ → ℕ → List ℕ
clocks_record j k = entry 5 (j ∷ 0 ∷ 0 ∷ 0 ∷ k ∷ [])

-- some of a script's totals
abbrev pub totals : List ℕ → List ℕ → List ℕ
totals s is = map (λ i. total_at s i) is

-- two drivers in normal operation: both show 0 at each of a pair's digits, twelve segments at 1
abbrev pub two : List ℕ
two = chain_record 2 ++ entry 2 (0 ∷ 32 ∷ 0x04 ∷ 0x01 ∷ 0x04 ∷ 0x01 ∷ [])

-- totals, drivers and numbers of scripts
abbrev pub script_rows : List (List ℕ × List ℕ)
script_rows =
    -- clocks count for the driver that they are given to; those of driver 3 are refused
    (totals (two ++ clocks_record 2 3 ++ clocks_record 3 5) (0 ∷ 7 ∷ 8 ∷ 15 ∷ []), 0 ∷ 0 ∷ 36 ∷ 36 ∷ [])
    -- records add up, each under what the driver shows then: cathode 0's digit 0 is 8, seven segments, at the second
    ∷ (totals (two ++ clocks_record 1 1 ++ entry 2 (0 ∷ 32 ∷ 0 ∷ 0 ∷ 0x60 ∷ 0x08 ∷ []) ++ clocks_record 1 2) (0 ∷ 1 ∷ 8 ∷ []), 38 ∷ 36 ∷ 0 ∷ [])
    -- a script that stops early counts what ran: at a chain record that isn't first, at one of an unknown kind, and at a wrong mark
    ∷ (totals (two ++ clocks_record 1 2 ++ chain_record 2 ++ clocks_record 1 9) (0 ∷ []), 24 ∷ [])
    ∷ (totals (two ++ clocks_record 1 2 ++ entry 9 (0 ∷ []) ++ clocks_record 1 9) (0 ∷ []), 24 ∷ [])
    ∷ (totals (two ++ clocks_record 1 2 ++ (0x5A ∷ 0 ∷ []) ++ clocks_record 1 9) (0 ∷ []), 24 ∷ [])
    -- the test table: a 14-segment digit of 55 has the word 5555, whose bits 14 and 10 are none
    ∷ (totals (chain_record 1 ++ access_record 0x04 0x01 ++ access_record 0x0C 0x01 ++ access_record 0x20 0x55 ++ clocks_record 1 1) (0 ∷ []), 6 ∷ [])
    -- drivers: of a chain record, of the assumed chain, also where the first record is malformed
    ∷ (map (λ s. drivers_of s) (two ∷ [] ∷ (0x5A ∷ []) ∷ []), 2 ∷ 4 ∷ 4 ∷ [])
    -- 1 before 5; room for 8 totals a driver
    ∷ (map (λ room. lit_number (chain_record 17) room) (0 ∷ 200 ∷ []), 1 ∷ 1 ∷ [])
    ∷ (map (λ room. lit_number two room) (15 ∷ 16 ∷ 17 ∷ []), 5 ∷ 0 ∷ 0 ∷ [])
    ∷ (map (λ room. lit_number [] room) (31 ∷ 32 ∷ []), 5 ∷ 0 ∷ [])
    ∷ []

-- a line of one-digit driver j and cathode d, with a total
abbrev pub line_of : ℕ → ℕ → List ℕ → List ℕ
line_of j d total = j ∷ 0x20 ∷ d ∷ 0x20 ∷ total ++ 0x0A ∷ []

-- the lines of a driver whose cathodes have one total
abbrev pub eight : ℕ → List ℕ → List ℕ
eight j total =
    line_of j 0x30 total ++ line_of j 0x31 total ++ line_of j 0x32 total ++ line_of j 0x33 total
    ++ line_of j 0x34 total ++ line_of j 0x35 total ++ line_of j 0x36 total ++ line_of j 0x37 total

-- what is printed
abbrev pub report_rows : List (List ℕ × List ℕ)
report_rows =
    -- `16 7 5`
    (total_line 16 7 5, 0x31 ∷ 0x36 ∷ 0x20 ∷ 0x37 ∷ 0x20 ∷ 0x35 ∷ 0x0A ∷ [])
    -- a chain record refused with 1: `R 1` alone
    ∷ (reported (chain_record 17 ++ clocks_record 1 3), 0x52 ∷ 0x20 ∷ 0x31 ∷ 0x0A ∷ [])
    -- a chain of 1 in normal operation, twelve segments at 1 for 3 clocks: `1 0 36` to `1 7 36`
    ∷ (reported (chain_record 1 ++ access_record 0x04 0x01 ++ clocks_record 1 3), eight 0x31 (0x33 ∷ 0x36 ∷ []))
    -- the clocks of driver 2 alone: `1 0 0` to `1 7 0`, `2 0 36` to `2 7 36`
    ∷ (reported (two ++ clocks_record 2 3), eight 0x31 (0x30 ∷ []) ++ eight 0x32 (0x33 ∷ 0x36 ∷ []))
    -- the assumed chain, of an empty script and of one whose first record is malformed: 32 lines of six bytes, as `1 0 0`
    ∷ (map (λ s. length (reported s)) ([] ∷ (0x5A ∷ []) ∷ []), 192 ∷ 192 ∷ [])
    ∷ []

-- they agree in every row
pub record Examples : Type 0 where
  pub clocks : Agree clock_rows
  pub scripts : Agree script_rows
  pub reports : Agree report_rows
