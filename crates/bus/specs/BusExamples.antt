-- Believed: document 02, request 3, worked examples in one table: what the definitions give beside what the sheet 001 and the readings say.
-- Assumes nothing.
use Rattle.std.specs.Prelude.{ℕ, ◌+◌, ◌*◌, List, [], ◌∷◌, ◌++◌, map, get_or, replicate}
use Rattle.ground.specs.Lists.{Agree}
use Rattle.device.specs.PowerUp.{power_up, power_up6957, fresh_chain}
use Rattle.device.specs.Record.{with_command, with_family}
use Rattle.device.specs.declared.Device.{Device}
use Rattle.calls.specs.Calls.{scan}
use Rattle.calls.specs.Served.{record_of}
use Rattle.bus.specs.declared.Bus.{Bus}
use Rattle.bus.specs.declared.State.TheVariants.{Idle}
use Rattle.bus.specs.States.{bus_of}
use Rattle.bus.specs.BusCalls.{BusCall, start, put, get, stop, give}
use Rattle.bus.specs.BusOutcome.{number}
use Rattle.bus.specs.BusLists.{bus_all, parts_all, replies}

-- a start, and bytes given
abbrev pub s : List ℕ → List BusCall
s vs = start ∷ map put vs

-- bytes asked for
abbrev pub r : ℕ → List BusCall
r m = replicate m get

-- a stop
abbrev pub p : List BusCall
p = stop ∷ []

-- sixteen straps by the first two
abbrev pub straps : List ℕ → List ℕ
straps σ = σ ++ replicate 14 0

-- the answers to bytes: 0x100 and the data where acknowledged, else the data
abbrev pub answers : List (List ℕ) → List ℕ
answers [] = []
answers ([] ∷ rs) = answers rs
answers ((a ∷ ds) ∷ rs) = (a * 256 + get_or ds 0 0) ∷ answers rs

-- the answers to the bytes of calls on n parts, from power-up and an idle bus
abbrev pub answered : List ℕ → ℕ → List BusCall → List ℕ
answered σ n qs = answers (replies σ qs (bus_of Idle) (fresh_chain n))

-- part k's record after such calls
abbrev pub part : List ℕ → ℕ → List BusCall → ℕ → Device
part σ n qs k = record_of (parts_all σ qs (bus_of Idle) (fresh_chain n)) k

-- the bus state after them: part and phase
abbrev pub bus : List ℕ → ℕ → List BusCall → List ℕ
bus σ n qs = (bus_all σ qs (bus_of Idle) (fresh_chain n)).part ∷ (bus_all σ qs (bus_of Idle) (fresh_chain n)).phase ∷ []

-- one part, address 0x60, Table 5's first row
abbrev pub one : List ℕ
one = straps (0x60 ∷ 0 ∷ [])

-- the configuration bit S, GPIO data, command address of part 1
abbrev pub state : List BusCall → List ℕ
state qs =
    (part one 1 qs 1).registers.config.s
    ∷ (part one 1 qs 1).registers.controls.gpio
    ∷ (part one 1 qs 1).command
    ∷ []

-- four groups and masks of A and D written, then two scans that debounce keys of these
abbrev pub keyed : List BusCall
keyed = s (0xC0 ∷ 0x06 ∷ 0x9F ∷ 0x00 ∷ 0xFF ∷ 0x00 ∷ 0x00 ∷ 0x0F ∷ []) ++ p ++ give 1 (scan 0x05 0 0 0xF0) ∷ give 1 (scan 0x05 0 0 0xF0) ∷ []

-- the four debounced registers read
abbrev pub key_read : List BusCall
key_read = s (0xC0 ∷ 0x08 ∷ []) ++ s (0xC1 ∷ []) ++ r 4 ++ p

-- the interrupt, and the shift word
abbrev pub interrupt_of : List BusCall → List ℕ
interrupt_of qs = (part one 1 qs 1).registers.keys.interrupt ∷ (part one 1 qs 1).shift ∷ []

-- the numbers of a start, a byte given, a byte asked for and a stop
abbrev pub numbers_of : List ℕ → Bus → List Device → List ℕ
numbers_of σ b ds = number σ start b ds ∷ number σ (put 0) b ds ∷ number σ get b ds ∷ number σ stop b ds ∷ []

-- two parts written and read in turn
abbrev pub ten : List BusCall
ten =
    s (0xC0 ∷ 0x02 ∷ 0x03 ∷ []) ++ s (0xDE ∷ 0x0F ∷ 0x00 ∷ 0x59 ∷ []) ++ s (0xC1 ∷ []) ++ r 1 ++ s (0xDE ∷ 0x10 ∷ []) ++ s (0xDF ∷ []) ++ r 1 ++ p

-- each example as what is evaluated and what it is to be
abbrev pub rows : List (List ℕ × List ℕ)
rows =
    -- 1: 001, Figure 8; the read begins at the address that the part last left
    (
      answered one 1 (s (0xC0 ∷ 0x04 ∷ 0x01 ∷ []) ++ p ++ s (0xC0 ∷ 0x04 ∷ []) ++ s (0xC1 ∷ []) ++ r 1 ++ p ++ s (0xC1 ∷ []) ++ r 2),
      0x100 ∷ 0x100 ∷ 0x100 ∷ 0x100 ∷ 0x100 ∷ 0x100 ∷ 0x181 ∷ 0x100 ∷ 0x100 ∷ 0x11F ∷ [],
    )
    ∷ (state (s (0xC0 ∷ 0x04 ∷ 0x01 ∷ []) ++ p), 1 ∷ 0 ∷ 0x05 ∷ [])
    -- 2: a read from power-up begins at 0
    ∷ (answered one 1 (s (0xC1 ∷ []) ++ r 4), 0x100 ∷ 0x100 ∷ 0x1FF ∷ 0x100 ∷ 0x107 ∷ [])
    -- 3: 001, Figure 9
    ∷ (
      answered one 1 (s (0xC0 ∷ 0x21 ∷ 0x41 ∷ 0x42 ∷ 0x43 ∷ []) ++ p ++ s (0xC0 ∷ 0x20 ∷ []) ++ p ++ s (0xC1 ∷ []) ++ r 5),
      0x100 ∷ 0x100 ∷ 0x100 ∷ 0x100 ∷ 0x100 ∷ 0x100 ∷ 0x100 ∷ 0x100 ∷ 0x120 ∷ 0x141 ∷ 0x142 ∷ 0x143 ∷ 0x120 ∷ [],
    )
    -- 4: 7F stays
    ∷ (state (s (0xC0 ∷ 0x7E ∷ 0x11 ∷ 0x22 ∷ 0x33 ∷ []) ++ s (0xC1 ∷ []) ++ r 2), 0 ∷ 0 ∷ 0x7F ∷ [])
    ∷ (answered one 1 (s (0xC0 ∷ 0x7E ∷ 0x11 ∷ 0x22 ∷ 0x33 ∷ []) ++ s (0xC1 ∷ []) ++ r 2), replicate 8 0x100)
    -- 5: the top bit of a command byte is ignored
    ∷ (
      (part one 1 (s (0xC0 ∷ 0x82 ∷ 0x05 ∷ []) ++ p) 1).registers.controls.global ∷ (part one 1 (s (0xC0 ∷ 0x82 ∷ 0x05 ∷ []) ++ p) 1).command ∷ [],
      5 ∷ 3 ∷ [],
    )
    -- 6: 0C to 10 written, and read after a scan
    ∷ (
      answered one 1
          (s (0xC0 ∷ 0x0C ∷ 0x81 ∷ 0xAA ∷ 0xBB ∷ 0xCC ∷ 0x7B ∷ []) ++ s (0xC0 ∷ 0x06 ∷ 0x9F ∷ []) ++ p
          ++ give 1 (scan 0x11 0x22 0x33 0x44) ∷ s (0xC0 ∷ 0x0C ∷ []) ++ s (0xC1 ∷ []) ++ r 5),
      replicate 13 0x100 ++ 0x111 ∷ 0x122 ∷ 0x133 ∷ 0x144 ∷ 0x17B ∷ [],
    )
    ∷ (
      (part one 1 (s (0xC0 ∷ 0x0C ∷ 0x81 ∷ 0xAA ∷ 0xBB ∷ 0xCC ∷ 0x7B ∷ []) ++ p) 1).registers.controls.types
          ∷ get_or (part one 1 (s (0xC0 ∷ 0x0C ∷ 0x81 ∷ 0xAA ∷ 0xBB ∷ 0xCC ∷ 0x7B ∷ []) ++ p) 1).registers.intensities 0 0
          ∷ (part one 1 (s (0xC0 ∷ 0x0C ∷ 0x81 ∷ 0xAA ∷ 0xBB ∷ 0xCC ∷ 0x7B ∷ []) ++ p) 1).command
          ∷ [],
      0x81 ∷ 0x7B ∷ 0x11 ∷ [],
    )
    -- 7: debounced keys are cleared as they are read, with the interrupt; the shift word is not touched
    ∷ (interrupt_of keyed, 1 ∷ 0 ∷ [])
    ∷ (interrupt_of (keyed ++ key_read), 0 ∷ 0 ∷ [])
    ∷ (
      answered one 1 (keyed ++ key_read ++ s (0xC0 ∷ 0x08 ∷ []) ++ s (0xC1 ∷ []) ++ r 1),
      replicate 11 0x100 ++ 0x105 ∷ 0x100 ∷ 0x100 ∷ 0x1F0 ∷ replicate 4 0x100,
    )
    -- 8: nobody's address, then part 1's, then no transfer is open
    ∷ (
      answered (straps (0x60 ∷ 0x61 ∷ [])) 2
          (s (0xC4 ∷ 0xC0 ∷ 0x04 ∷ []) ++ r 1 ++ s (0xC0 ∷ 0x04 ∷ 0x01 ∷ []) ++ p ++ put 0xC0 ∷ get ∷ s (0x80 ∷ []) ++ s (0x00 ∷ []) ++ s (0xE0 ∷ [])),
      replicate 4 0x0FF ++ replicate 3 0x100 ++ replicate 5 0x0FF,
    )
    ∷ (bus (straps (0x60 ∷ 0x61 ∷ [])) 2 (s (0xC4 ∷ 0xC0 ∷ 0x04 ∷ []) ++ r 1), 0 ∷ 2 ∷ [])
    -- 9: against the direction: no effect
    ∷ (
      answered one 1 (start ∷ get ∷ put 0xC0 ∷ get ∷ put 0x04 ∷ get ∷ put 0x01 ∷ get ∷ put 0x55 ∷ stop ∷ start ∷ put 0xC1 ∷ put 0x00 ∷ get ∷ []),
      0x0FF ∷ 0x100 ∷ 0x0FF ∷ 0x100 ∷ 0x0FF ∷ 0x100 ∷ 0x0FF ∷ 0x100 ∷ 0x100 ∷ 0x0FF ∷ 0x11F ∷ [],
    )
    ∷ (state (start ∷ get ∷ put 0xC0 ∷ get ∷ put 0x04 ∷ get ∷ put 0x01 ∷ get ∷ put 0x55 ∷ stop ∷ []), 1 ∷ 0x15 ∷ 0x06 ∷ [])
    -- 10: 001, Table 5, first and last row
    ∷ (answered (straps (0x60 ∷ 0x6F ∷ [])) 2 ten, replicate 8 0x100 ++ 0x107 ∷ 0x100 ∷ 0x100 ∷ 0x100 ∷ 0x159 ∷ [])
    ∷ (
      (part (straps (0x60 ∷ 0x6F ∷ [])) 2 ten 1).command
          ∷ (part (straps (0x60 ∷ 0x6F ∷ [])) 2 ten 2).command
          ∷ (part (straps (0x60 ∷ 0x6F ∷ [])) 2 (ten ++ s (0xC0 ∷ []) ++ s (0xDE ∷ 0x07 ∷ 0x01 ∷ []) ++ p) 1).registers.controls.test
          ∷ (part (straps (0x60 ∷ 0x6F ∷ [])) 2 (ten ++ s (0xC0 ∷ []) ++ s (0xDE ∷ 0x07 ∷ 0x01 ∷ []) ++ p) 2).registers.controls.test
          ∷ (part (straps (0x60 ∷ 0x6F ∷ [])) 2 (ten ++ s (0xC0 ∷ []) ++ s (0xDE ∷ 0x07 ∷ 0x01 ∷ []) ++ p) 1).command
          ∷ (part (straps (0x60 ∷ 0x6F ∷ [])) 2 (ten ++ s (0xC0 ∷ []) ++ s (0xDE ∷ 0x07 ∷ 0x01 ∷ []) ++ p) 2).command
          ∷ [],
      0x04 ∷ 0x11 ∷ 0 ∷ 1 ∷ 0x04 ∷ 0x08 ∷ [],
    )
    ∷ []

-- the numbers of the four calls by the straps
abbrev pub strap_rows : List (List ℕ × List ℕ)
strap_rows =
    -- 11: numbers: 10 two parts with one address, neighbours or not, also above 127; 11 an address above 127
    (numbers_of (straps (0x60 ∷ 0x60 ∷ [])) (bus_of Idle) (fresh_chain 2), 10 ∷ 10 ∷ 10 ∷ 10 ∷ [])
    ∷ (numbers_of (straps (0x60 ∷ 0x61 ∷ 0x60 ∷ [])) (bus_of Idle) (fresh_chain 3), 10 ∷ 10 ∷ 10 ∷ 10 ∷ [])
    ∷ (numbers_of (straps (0xC8 ∷ 0xC8 ∷ [])) (bus_of Idle) (fresh_chain 2), 10 ∷ 10 ∷ 10 ∷ 10 ∷ [])
    ∷ (numbers_of (straps (0x60 ∷ 0xE0 ∷ [])) (bus_of Idle) (fresh_chain 2), 11 ∷ 11 ∷ 11 ∷ 11 ∷ [])
    ∷ (numbers_of (straps (0x7F ∷ [])) (bus_of Idle) (fresh_chain 1), 0 ∷ 0 ∷ 0 ∷ 0 ∷ [])
    ∷ (numbers_of (straps (0x80 ∷ [])) (bus_of Idle) (fresh_chain 1), 11 ∷ 11 ∷ 11 ∷ 11 ∷ [])
    -- the first n straps count
    ∷ (numbers_of (0x60 ∷ 0x60 ∷ 0xFF ∷ replicate 13 0xFF) (bus_of Idle) (fresh_chain 1), 0 ∷ 0 ∷ 0 ∷ 0 ∷ [])
    ∷ []

-- and by the records and the bus state
abbrev pub number_rows : List (List ℕ × List ℕ)
number_rows =
    (numbers_of (straps (0x60 ∷ 0x61 ∷ [])) (record { part = 3; phase = 1 }) (fresh_chain 2), 7 ∷ 7 ∷ 7 ∷ 7 ∷ [])
    ∷ (numbers_of (straps (0x60 ∷ 0x61 ∷ [])) (bus_of Idle) (fresh_chain 0), 1 ∷ 1 ∷ 1 ∷ 1 ∷ [])
    ∷ (numbers_of (straps (0x60 ∷ 0x61 ∷ [])) (bus_of Idle) (fresh_chain 17), 1 ∷ 1 ∷ 1 ∷ 1 ∷ [])
    ∷ (numbers_of (straps (0x60 ∷ 0x61 ∷ [])) (record { part = 0; phase = 3 }) (fresh_chain 2), 7 ∷ 7 ∷ 7 ∷ 7 ∷ [])
    -- a phase above 2, where a part is named too
    ∷ (numbers_of (straps (0x60 ∷ 0x61 ∷ [])) (record { part = 1; phase = 3 }) (fresh_chain 2), 7 ∷ 7 ∷ 7 ∷ 7 ∷ [])
    -- the lowest that applies: 1 and 7, 7 and 10; a record whose command address is 128 isn't sound
    ∷ (numbers_of (straps (0x60 ∷ 0x61 ∷ [])) (record { part = 1; phase = 1 }) [], 1 ∷ 1 ∷ 1 ∷ 1 ∷ [])
    ∷ (numbers_of (straps (0x60 ∷ 0x60 ∷ [])) (record { part = 3; phase = 1 }) (fresh_chain 2), 7 ∷ 7 ∷ 7 ∷ 7 ∷ [])
    ∷ (numbers_of one (bus_of Idle) (with_command power_up 127 ∷ []), 0 ∷ 0 ∷ 0 ∷ 0 ∷ [])
    ∷ (numbers_of one (bus_of Idle) (with_command power_up 128 ∷ []), 7 ∷ 7 ∷ 7 ∷ 7 ∷ [])
    -- request 8: 14 where any part is a MAX6957, or of an unknown family; after 7, 10 and 11
    ∷ (numbers_of (straps (0x60 ∷ 0x61 ∷ [])) (bus_of Idle) (power_up ∷ power_up6957 ∷ []), 14 ∷ 14 ∷ 14 ∷ 14 ∷ [])
    ∷ (numbers_of (straps (0x60 ∷ 0x61 ∷ [])) (bus_of Idle) (with_family power_up 2 ∷ power_up ∷ []), 14 ∷ 14 ∷ 14 ∷ 14 ∷ [])
    ∷ (numbers_of (straps (0x60 ∷ 0x60 ∷ [])) (bus_of Idle) (power_up ∷ power_up6957 ∷ []), 10 ∷ 10 ∷ 10 ∷ 10 ∷ [])
    ∷ (numbers_of (straps (0x60 ∷ 0xE0 ∷ [])) (bus_of Idle) (power_up ∷ power_up6957 ∷ []), 11 ∷ 11 ∷ 11 ∷ 11 ∷ [])
    ∷ (numbers_of (straps (0x60 ∷ 0x61 ∷ [])) (record { part = 3; phase = 1 }) (power_up ∷ power_up6957 ∷ []), 7 ∷ 7 ∷ 7 ∷ 7 ∷ [])
    ∷ []

-- refused calls
abbrev pub refused_rows : List (List ℕ × List ℕ)
refused_rows =
    -- 12: refused, a byte answers 0 and 0, the bus state is as given and no record changes
    (
      answers (replies (straps (0x60 ∷ 0x60 ∷ [])) (put 0x05 ∷ get ∷ start ∷ []) (record { part = 1; phase = 0 }) (fresh_chain 2)),
      0 ∷ 0 ∷ [],
    )
    ∷ (
      (bus_all (straps (0x60 ∷ 0x60 ∷ [])) (put 0x05 ∷ get ∷ start ∷ []) (record { part = 1; phase = 0 }) (fresh_chain 2)).part
          ∷ (bus_all (straps (0x60 ∷ 0x60 ∷ [])) (put 0x05 ∷ get ∷ start ∷ []) (record { part = 1; phase = 0 }) (fresh_chain 2)).phase
          ∷ (record_of (parts_all (straps (0x60 ∷ 0x60 ∷ [])) (put 0x05 ∷ get ∷ start ∷ []) (record { part = 1; phase = 0 }) (fresh_chain 2)) 1).command
          ∷ [],
      1 ∷ 0 ∷ 0 ∷ [],
    )
    ∷ []

-- the two agree in every row
pub record BusExamples : Type 0 where
  pub examples : Agree rows
  pub addresses : Agree strap_rows
  pub numbers : Agree number_rows
  pub refused : Agree refused_rows
