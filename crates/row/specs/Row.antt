-- Believed: a chain by value: the calls on a row of records, with the meaning that they have on a lent chain.
-- Assumes nothing.
use Rattle.std.specs.Prelude.{ℕ, List, ◌++◌, eqb, take, drop, replicate}
use Rattle.ground.specs.Choice.{if}
use Rattle.device.specs.PowerUp.{power_up}
use Rattle.device.specs.declared.Device.{Device}
use Rattle.calls.specs.Calls.{Question, Call, ask}
use Rattle.calls.specs.Served.{record_of}
use Rattle.calls.specs.Outcome.{number, after, reply}
use Rattle.row.specs.declared.Row.{Row}
use Rattle.row.specs.declared.Done.{Done}
use Rattle.row.specs.declared.Shown.{Shown}

-- a row of n drivers at power-up
abbrev pub fresh : ℕ → Row
fresh n = record { n = n; devices = replicate 16 power_up }

-- the chain's records; a length above 16 counts as 16
abbrev pub records : Row → List Device
records r = take r.n r.devices

-- the number of a call
abbrev pub number_on : Row → Call → ℕ
number_on r q = number q (records r)

-- what it gives back
abbrev pub reply_on : Row → Call → List ℕ
reply_on r q = reply q (records r)

-- its number, and the row after it; records past the chain's stay
abbrev pub done_on : Row → Call → Done
done_on r q =
    record {
      number = number_on r q;
      row = record { n = r.n; devices = after q (records r) ++ drop r.n r.devices };
    }

-- a question's number and answer, and the answer mark of the driver asked; 0 where refused
abbrev pub shown_on : Row → ℕ → Question → Shown
shown_on r j q =
    record {
      number = number_on r (ask j q);
      pins = reply_on r (ask j q);
      mark = if (eqb (number_on r (ask j q)) 0) (record_of (records r) j).answer_mark 0;
    }
