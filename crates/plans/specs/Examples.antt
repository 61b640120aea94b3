-- Believed: document 02, request 6: pictures and the words that lead to them, and lists that the check accepts or not.
-- Assumes nothing.
use Rattle.std.specs.Prelude.{ℕ, ◌*◌, Bool, true, false, List, [], ◌∷◌, ◌++◌}
use Rattle.ground.specs.Choice.{if}
use Rattle.ground.specs.Lists.{tabulate, Agree}
use Rattle.digits.specs.Digits.{eight, cleared}
use Rattle.digits.specs.declared.Planes.{Planes}
use Rattle.device.specs.PowerUp.{power_up, planes}
use Rattle.device.specs.Taken.{taken}
use Rattle.device.specs.declared.Device.{Device}
use Rattle.plans.specs.Words.{allowed}
use Rattle.plans.specs.Lists.{Given}
use Rattle.plans.specs.Check.{accepted_list}
use Rattle.plans.specs.Plan.{plan_of, planned}

-- a driver at power-up that was given I = 1, B = 1, S = 1: digits 0 to 7 hold 0x20 and digits 0a to 7a hold 0 in both planes
abbrev pub before : Device
before = taken power_up 0x0445

-- a few digits: one in P0, one in P1, one alike in both, one that differs
abbrev pub few : Planes
few =
    record {
      p0 = 0x41 ∷ 0x20 ∷ 0x20 ∷ 0x20 ∷ 0x20 ∷ 0x20 ∷ 0x20 ∷ 0x20 ∷ 0 ∷ 8 ∷ 0 ∷ 0 ∷ 1 ∷ 0 ∷ 0 ∷ 0 ∷ [];
      p1 = 0x20 ∷ 0x20 ∷ 0x20 ∷ 7 ∷ 0x20 ∷ 0x20 ∷ 0x20 ∷ 0x20 ∷ 0 ∷ 8 ∷ 0 ∷ 0 ∷ 2 ∷ 0 ∷ 0 ∷ 0 ∷ [];
    }

-- nearly all 0
abbrev pub sparse : Planes
sparse =
    record {
      p0 = 0 ∷ 0 ∷ 0 ∷ 0 ∷ 0 ∷ 3 ∷ 0 ∷ 0 ∷ 0 ∷ 0 ∷ 0 ∷ 0 ∷ 0 ∷ 0 ∷ 0 ∷ 0xFF ∷ [];
      p1 = 0 ∷ 0 ∷ 0 ∷ 0 ∷ 0 ∷ 4 ∷ 0 ∷ 0 ∷ 0 ∷ 0 ∷ 0 ∷ 0 ∷ 0 ∷ 0 ∷ 0 ∷ 0xFF ∷ [];
    }

-- digit 0 another, digits 4 to 7 at 0
abbrev pub tied : Planes
tied =
    record {
      p0 = 0x41 ∷ 0x20 ∷ 0x20 ∷ 0x20 ∷ 0 ∷ 0 ∷ 0 ∷ 0 ∷ eight 0;
      p1 = 0x41 ∷ 0x20 ∷ 0x20 ∷ 0x20 ∷ 0 ∷ 0 ∷ 0 ∷ 0 ∷ eight 0;
    }

-- every digit alike in both planes
abbrev pub alike : Planes
alike = record { p0 = eight 0x55 ++ eight 0x55; p1 = eight 0x55 ++ eight 0x55 }

-- the planner's words from `before` to a picture
abbrev pub pictures : List (List ℕ × List ℕ)
pictures =
    (plan_of before few, 0x2041 ∷ 0x4307 ∷ 0x6908 ∷ 0x2C01 ∷ 0x4C02 ∷ [])
    -- a clear is shorter: then two digits, or none
    ∷ (plan_of before sparse, 0x0465 ∷ 0x2503 ∷ 0x4504 ∷ 0x6FFF ∷ [])
    ∷ (plan_of before cleared, 0x0465 ∷ [])
    -- one write to both planes of each digit
    ∷ (
      plan_of before alike,
      0x6055 ∷ 0x6155 ∷ 0x6255 ∷ 0x6355 ∷ 0x6455 ∷ 0x6555 ∷ 0x6655 ∷ 0x6755
          ∷ 0x6855 ∷ 0x6955 ∷ 0x6A55 ∷ 0x6B55 ∷ 0x6C55 ∷ 0x6D55 ∷ 0x6E55 ∷ 0x6F55 ∷ [],
    )
    -- five words with a clear or without: no clear on a tie
    ∷ (plan_of before tied, 0x6041 ∷ 0x6400 ∷ 0x6500 ∷ 0x6600 ∷ 0x6700 ∷ [])
    -- nothing to do
    ∷ (plan_of before planes, [])
    ∷ []

-- two drivers, of which the second is at power-up
abbrev pub chain : List Device
chain = before ∷ power_up ∷ []

-- the planner's list for them: wanted contents P0 then P1, driver 1 first, and words one to each driver per access, driver 1's first
abbrev pub lists : List (List ℕ × List ℕ)
lists =
    -- driver 2 is done first, and waits with 0000
    (
      planned chain (few.p0 ++ few.p1 ++ sparse.p0 ++ sparse.p1),
      0x2041 ∷ 0x0420 ∷ 0x4307 ∷ 0x2503 ∷ 0x6908 ∷ 0x4504 ∷ 0x2C01 ∷ 0x6FFF ∷ 0x4C02 ∷ 0x0000 ∷ [],
    )
    -- nothing to do: no access
    ∷ (planned chain (planes.p0 ++ planes.p1 ++ planes.p0 ++ planes.p1), [])
    ∷ []

-- wanted: 0x41 in digit 0 of driver 1's P0, 8 in digit 1a of driver 2's P0 and 7 in digit 3 of its P1; all else as it is
abbrev pub wants : List ℕ
wants =
    (0x41 ∷ 0x20 ∷ 0x20 ∷ 0x20 ∷ 0x20 ∷ 0x20 ∷ 0x20 ∷ 0x20 ∷ eight 0)
    ++ planes.p1
    ++ eight 0x20
    ++ (0 ∷ 8 ∷ 0 ∷ 0 ∷ 0 ∷ 0 ∷ 0 ∷ 0 ∷ [])
    ++ (0x20 ∷ 0x20 ∷ 0x20 ∷ 7 ∷ 0x20 ∷ 0x20 ∷ 0x20 ∷ 0x20 ∷ eight 0)

-- the check of a list for this
abbrev pub accepts : List ℕ → Bool
accepts list = accepted_list chain wants list

-- a shortest list, with w as driver 1's second word
abbrev pub waiting : ℕ → Bool
waiting w = accepts (0x2041 ∷ 0x4307 ∷ w ∷ 0x2908 ∷ [])

-- what the check says
abbrev pub checks : List (Bool × Bool)
checks =
    -- 0000, and a configuration write that keeps I, E, B and S
    (waiting 0x0000, true)
    ∷ (waiting 0x0445, true)
    -- T, P or X 1
    ∷ (waiting 0x0455, false)
    ∷ (waiting 0x04C5, false)
    ∷ (waiting 0x0447, false)
    -- another I, E, B or S
    ∷ (waiting 0x0405, false)
    ∷ (waiting 0x044D, false)
    ∷ (waiting 0x0441, false)
    ∷ (waiting 0x0444, false)
    -- a clear, after which the planes are others
    ∷ (waiting 0x0465, false)
    -- a no-op with data, a read, another register
    ∷ (waiting 0x0001, false)
    ∷ (waiting 0x8000, false)
    ∷ (waiting 0x0207, false)
    -- a longer list
    ∷ (accepts (0x2000 ∷ 0x0000 ∷ 0x2041 ∷ 0x4307 ∷ 0x0000 ∷ 0x2908 ∷ []), true)
    -- other planes than wanted: P0, and P1
    ∷ (accepts (0x2041 ∷ 0x4307 ∷ []), false)
    ∷ (accepts (0x2041 ∷ 0x2908 ∷ []), false)
    -- driver 2's words first
    ∷ (accepts (0x4307 ∷ 0x2041 ∷ 0x2908 ∷ 0x0000 ∷ []), false)
    -- an access in part
    ∷ (accepts (0x2041 ∷ 0x4307 ∷ 0x0000 ∷ 0x2908 ∷ 0x0000 ∷ []), false)
    ∷ []

-- the words with data 0 at 0x00, 0x10 and so on, reads among them, that may be used: the no-op, and digit 0 of P0, of P1 and of both
abbrev pub allowed_rows : List (List ℕ × List ℕ)
allowed_rows = (
  tabulate 16 (λ n. if (allowed before (4096 * n)) 1 0),
  1 ∷ 0 ∷ 1 ∷ 0 ∷ 1 ∷ 0 ∷ 1 ∷ 0 ∷ 0 ∷ 0 ∷ 0 ∷ 0 ∷ 0 ∷ 0 ∷ 0 ∷ 0 ∷ [],
)
    ∷ []

-- what the definitions give is what the request says
pub record Examples : Type 0 where
  pub may_be_used : Agree allowed_rows
  -- a chain of one driver, and contents of any bytes, are what the theorems speak of
  pub given : Given (before ∷ []) (sparse.p0 ++ sparse.p1)
  pub drawn : Agree pictures
  pub listed : Agree lists
  pub checked : Agree checks
