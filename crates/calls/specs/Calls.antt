-- Believed: document 01, and document 02, requests 1, 6, 8 and 9: the calls on a chain, with their arguments. Drivers are counted from 1, driver 1 nearest the controller.
-- Assumes nothing.
use Rattle.std.specs.Prelude.{ℕ, List}

-- what is given to one driver
pub data Step : Type 0 where
  -- a key scan: the closed keys of groups A to D
  scan : ℕ → ℕ → ℕ → ℕ → Step
  -- pin levels
  levels : ℕ → Step
  -- master clocks
  clocks : ℕ → Step

-- what one driver is asked
pub data Question : Type 0 where
  -- the part of the plane shown: the lent planes P0 and P1, first and last digit
  plane : List ℕ → List ℕ → ℕ → ℕ → Question
  -- which of the two lent planes that part is of
  plane_shown : List ℕ → List ℕ → ℕ → ℕ → Question
  -- the pins of a cathode: cathode, the glyph tables for 14 and for 16 segments
  segments : ℕ → List ℕ → List ℕ → Question
  -- the brightness of a digit
  brightness : ℕ → Question
  -- the plane shown
  shown : Question
  -- the interrupt
  interrupt : Question
  -- the answer mark (document 02, request 1)
  answer_mark : Question
  -- one plane byte after a list of the driver's words: plane, digit, the words (document 02, request 9)
  look_back : ℕ → ℕ → List ℕ → Question
  -- what each of P4 to P31 of a MAX6957 drives (document 02, request 8)
  ports : Question

-- what a whole chain is asked: no driver is named, and no record changes
pub data ChainQuestion : Type 0 where
  -- the shortest list of accesses: the wanted contents, and the words that have room for the list (document 02, request 6)
  plan : List ℕ → List ℕ → ChainQuestion
  -- whether a list is accepted: the wanted contents, and the list
  plan_check : List ℕ → List ℕ → ChainQuestion

-- a call
pub data Call : Type 0 where
  -- clocks, the bytes sent, and the bytes that have room for the answer
  access : ℕ → List ℕ → List ℕ → Call
  -- driver, and what it is given
  give : ℕ → Step → Call
  -- driver, and what it is asked
  ask : ℕ → Question → Call
  -- what the chain is asked
  ask_chain : ChainQuestion → Call
