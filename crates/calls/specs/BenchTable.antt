-- Believed: document 01, "Bench examples (all proved together over one table)": in order, 1 to 12, as what is evaluated and what the document says.
-- Assumes nothing.
use Rattle.std.specs.Prelude.{ℕ, List, [], ◌∷◌, ◌++◌, map, replicate}
use Rattle.device.specs.PowerUp.{fresh_chain}
use Rattle.device.specs.Examples.{rows as driver_rows}
use Rattle.device.specs.declared.Device.{Device}
use Rattle.wiring.specs.Wiring.{Wire}
use Rattle.display.specs.Examples.{wire_rows, rows as display_rows}
use Rattle.calls.specs.Calls.{scan, Call, access, give}
use Rattle.calls.specs.Served.{record_of}
use Rattle.calls.specs.Outcome.{number}
use Rattle.calls.specs.CallLists.{after_all, numbers, replies}

-- an access whose answer bytes have just room enough
abbrev pub access_of : ℕ → List ℕ → Call
access_of c sent = access c sent (map (λ b. 0) sent)

-- lists in one
abbrev pub joined : List (List ℕ) → List ℕ
joined [] = []
joined (xs ∷ xss) = xs ++ joined xss

-- shift word, global intensity and scan limit of driver j after calls
abbrev pub state_of : List Call → List Device → ℕ → List ℕ
state_of qs ds j =
    (record_of (after_all qs ds) j).shift
    ∷ (record_of (after_all qs ds) j).registers.controls.global
    ∷ (record_of (after_all qs ds) j).registers.controls.limit
    ∷ []

-- 1 to 5
abbrev pub chain_rows : List (List ℕ × List ℕ)
chain_rows =
    -- 1: n=1, power-up, 0401, 8400, 0000: answers 0000, 0401, 8481
    (
      joined (replies (access_of 16 (0x04 ∷ 0x01 ∷ []) ∷ access_of 16 (0x84 ∷ 0x00 ∷ []) ∷ access_of 16 (0x00 ∷ 0x00 ∷ []) ∷ []) (fresh_chain 1)),
      0x00 ∷ 0x00 ∷ 0x04 ∷ 0x01 ∷ 0x84 ∷ 0x81 ∷ [],
    )
    -- 2: n=1, 17 clocks, a 1 and then 0203: global intensity 3
    ∷ (state_of (access_of 17 (0x81 ∷ 0x01 ∷ 0x80 ∷ []) ∷ []) (fresh_chain 1) 1, 0x0203 ∷ 3 ∷ 7 ∷ [])
    -- 3: then 0 clocks: 0203 is taken again; no answer bits
    ∷ (state_of (access_of 17 (0x81 ∷ 0x01 ∷ 0x80 ∷ []) ∷ access_of 0 [] ∷ []) (fresh_chain 1) 1, 0x0203 ∷ 3 ∷ 7 ∷ [])
    ∷ (
      joined (replies (access_of 17 (0x81 ∷ 0x01 ∷ 0x80 ∷ []) ∷ access 0 [] (0xEE ∷ []) ∷ []) (fresh_chain 1)),
      0x00 ∷ 0x00 ∷ 0x80 ∷ 0xEE ∷ [],
    )
    ∷ (numbers (access_of 17 (0x81 ∷ 0x01 ∷ 0x80 ∷ []) ∷ access_of 0 [] ∷ []) (fresh_chain 1), 0 ∷ 0 ∷ [])
    -- 3, of a read: the debounced key is taken by 8800, and the same word, taken again at 0 clocks, finds none
    ∷ (
      map (λ qs. (record_of (after_all qs (fresh_chain 1)) 1).shift)
          (
          (access_of 16 (0x06 ∷ 0x20 ∷ []) ∷ give 1 (scan 1 0 0 0) ∷ give 1 (scan 1 0 0 0) ∷ access_of 16 (0x88 ∷ 0x00 ∷ []) ∷ [])
          ∷ (access_of 16 (0x06 ∷ 0x20 ∷ []) ∷ give 1 (scan 1 0 0 0) ∷ give 1 (scan 1 0 0 0) ∷ access_of 16 (0x88 ∷ 0x00 ∷ []) ∷ access_of 0 [] ∷ [])
          ∷ []
          ),
      0x8801 ∷ 0x8800 ∷ [],
    )
    -- 4: n=2, 32 clocks, 0000 0303: driver 1 has scan limit 3, driver 2 a no-op
    ∷ (state_of (access_of 32 (0x00 ∷ 0x00 ∷ 0x03 ∷ 0x03 ∷ []) ∷ []) (fresh_chain 2) 1, 0x0303 ∷ 0 ∷ 3 ∷ [])
    ∷ (state_of (access_of 32 (0x00 ∷ 0x00 ∷ 0x03 ∷ 0x03 ∷ []) ∷ []) (fresh_chain 2) 2, 0x0000 ∷ 0 ∷ 7 ∷ [])
    -- 5: n=2, power-up, 16 clocks 0305: driver 1 takes it, driver 2 takes 0000
    ∷ (state_of (access_of 16 (0x03 ∷ 0x05 ∷ []) ∷ []) (fresh_chain 2) 1, 0x0305 ∷ 0 ∷ 5 ∷ [])
    ∷ (state_of (access_of 16 (0x03 ∷ 0x05 ∷ []) ∷ []) (fresh_chain 2) 2, 0x0000 ∷ 0 ∷ 7 ∷ [])
    ∷ []

-- 12
abbrev pub clock_rows : List (List ℕ × List ℕ)
clock_rows =
    -- 4,096 clocks served; 4,097 gives 3
    (
      number (access_of 4096 (replicate 512 0x55)) (fresh_chain 1) ∷ number (access_of 4097 (replicate 513 0x55)) (fresh_chain 1) ∷ [],
      0 ∷ 3 ∷ [],
    )
    ∷ []

-- a cell of the table: a number, or what a pin is to a cathode
pub data Cell : Type 0 where
  value : ℕ → Cell
  wire : Wire → Cell

-- rows of numbers, and of wires, as rows of cells
abbrev pub cells : {A : Type 0} → (A → Cell) → List (List A × List A) → List (List Cell × List Cell)
cells {A} cell rows = map (λ (row : List A × List A). (map cell row.0, map cell row.1)) rows

-- the one table: 1 to 5 on a chain, 6, 7 and request 2's bytes of the display, 1 again, 8 and 9 on one driver, 10 and 11 by wires, 12 on a chain
abbrev pub table : List (List Cell × List Cell)
table = cells value (chain_rows ++ display_rows ++ driver_rows) ++ cells wire wire_rows ++ cells value clock_rows
