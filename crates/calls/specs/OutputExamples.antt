-- Believed: document 01, "Outputs", "Blink", "Segments and brightness" and "Keys", of calls on a chain: what questions that are served answer, and what a
-- scan, pin levels and clocks leave.
-- Assumes nothing.
use Rattle.std.specs.Prelude.{ℕ, ◌+◌, List, [], ◌∷◌, ◌++◌, map, replicate}
use Rattle.ground.specs.Lists.{tabulate, Agree}
use Rattle.device.specs.PowerUp.{power_up, fresh_chain}
use Rattle.device.specs.Record.{with_blink}
use Rattle.device.specs.Taken.{taken}
use Rattle.device.specs.Table15.{after_words}
use Rattle.device.specs.declared.Device.{Device}
use Rattle.calls.specs.Calls.{scan, levels, clocks, plane_shown, segments, brightness, shown, interrupt, Call, give, ask}
use Rattle.calls.specs.Served.{record_of}
use Rattle.calls.specs.Outcome.{reply}
use Rattle.calls.specs.CallLists.{after_all}
use Rattle.calls.specs.BenchTable.{joined}

-- a plane whose digits hold their own places
abbrev pub lent : List ℕ
lent = tabulate 16 (λ i. i)

-- a plane whose digits hold 16 more
abbrev pub other : List ℕ
other = tabulate 16 (λ i. 16 + i)

-- a driver with E=0 at 2,000,000 clocks; slow at 1,000,000 and 2,000,000; fast at the same
abbrev pub blinking : List (List Device)
blinking =
    (with_blink (taken power_up 0x0401) 2000000 ∷ [])
    ∷ (with_blink (taken power_up 0x0409) 1000000 ∷ [])
    ∷ (with_blink (taken power_up 0x0409) 2000000 ∷ [])
    ∷ (with_blink (taken power_up 0x040D) 1000000 ∷ [])
    ∷ (with_blink (taken power_up 0x040D) 2000000 ∷ [])
    ∷ []

-- the plane shown, 0 for P0 and 1 for P1, of the planes that are lent too: E=0, slow and fast
abbrev pub shown_rows : List (List ℕ × List ℕ)
shown_rows =
    (joined (map (reply (ask 1 shown)) blinking), 0 ∷ 0 ∷ 1 ∷ 1 ∷ 0 ∷ [])
    ∷ (joined (map (reply (ask 1 (plane_shown lent other 2 4))) blinking), 0 ∷ 0 ∷ 1 ∷ 1 ∷ 0 ∷ [])
    ∷ []

-- a driver in normal operation whose cathode 0 is of 14 segments
abbrev pub drawn : List Device
drawn = after_words power_up (0x0401 ∷ 0x0C01 ∷ []) ∷ []

-- the pins of cathode 0, of 14 segments, by the first table, of which d is lit; of cathode 1, a pair that shows 0 twice
abbrev pub pin_rows : List (List ℕ × List ℕ)
pin_rows =
    (reply (ask 1 (segments 0 (replicate 128 0x0800) (replicate 128 0xF7FF))) drawn, 1 ∷ 0 ∷ 3 ∷ 4 ∷ 3 ∷ 3 ∷ 2 ∷ 4 ∷ replicate 11 3)
    ∷ (
      reply (ask 1 (segments 1 (replicate 128 0x0800) (replicate 128 0xF7FF))) drawn,
      0 ∷ 1 ∷ 2 ∷ 4 ∷ 2 ∷ 2 ∷ 2 ∷ 3 ∷ 2 ∷ 2 ∷ 3 ∷ 2 ∷ 2 ∷ 2 ∷ 2 ∷ 2 ∷ 2 ∷ 3 ∷ 3 ∷ [],
    )
    ∷ []

-- brightness of digits 5 to 7 by their own nibbles (2), and of digit 5 by the global one (1)
abbrev pub brightness_rows : List (List ℕ × List ℕ)
brightness_rows =
    (joined (map (λ i. reply (ask 1 (brightness i)) (after_words power_up (0x0441 ∷ 0x1321 ∷ []) ∷ [])) (5 ∷ 6 ∷ 7 ∷ [])), 1 ∷ 2 ∷ 2 ∷ 2 ∷ 3 ∷ 2 ∷ [])
    ∷ (reply (ask 1 (brightness 5)) (after_words power_up (0x0401 ∷ 0x020A ∷ []) ∷ []), 11 ∷ 1 ∷ [])
    ∷ []

-- a driver of one key group whose key 0 has its mask bit set
abbrev pub masked : List Device
masked = after_words power_up (0x0620 ∷ 0x0801 ∷ []) ∷ []

-- a scan of that key
abbrev pub pressed : List Call
pressed = give 1 (scan 1 0 0 0) ∷ []

-- the interrupt, 1 where raised: after one scan of a key whose mask bit is set, and after two
abbrev pub interrupt_rows : List (List ℕ × List ℕ)
interrupt_rows =
    (joined (map (λ qs. reply (ask 1 interrupt) (after_all qs masked)) (pressed ∷ (pressed ++ pressed) ∷ [])), 0 ∷ 1 ∷ [])
    ∷ []

-- a scan, pin levels and clocks for driver 2
abbrev pub steps : List Call
steps = give 2 (scan 1 2 4 8) ∷ give 2 (levels 10) ∷ give 2 (clocks 5) ∷ []

-- pressed keys A to D, pin levels and blink count of a record
abbrev pub steps_of : Device → List ℕ
steps_of d =
    d.registers.keys.a.pressed
    ∷ d.registers.keys.b.pressed
    ∷ d.registers.keys.c.pressed
    ∷ d.registers.keys.d.pressed
    ∷ d.registers.pins
    ∷ d.registers.blink
    ∷ []

-- scans, pin levels and clocks: what driver 2 of two was given, and driver 1 wasn't
abbrev pub step_rows : List (List ℕ × List ℕ)
step_rows =
    (joined (map (λ j. steps_of (record_of (after_all steps (map (λ d. taken d 0x0680) (fresh_chain 2))) j)) (1 ∷ 2 ∷ [])), 0 ∷ 0 ∷ 0 ∷ 0 ∷ 0 ∷ 0 ∷ 1 ∷ 2 ∷ 4 ∷ 8 ∷ 10 ∷ 5 ∷ [])
    ∷ []

-- what the definitions give is what the document says
pub record OutputExamples : Type 0 where
  pub shown : Agree shown_rows
  pub pins : Agree pin_rows
  pub bright : Agree brightness_rows
  pub interrupts : Agree interrupt_rows
  pub stepped : Agree step_rows
