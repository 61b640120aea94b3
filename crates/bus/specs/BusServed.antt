-- Believed: document 02, request 3: the whole behaviour of the two-wire bus: what a call leaves and gives back, served or refused.
-- Assumes nothing.
use Rattle.std.specs.Prelude.{ℕ, zero, suc, List, [], ◌∷◌}
use Rattle.ground.specs.Choice.{if, odd}
use Rattle.device.specs.TwoWire.{commanded, received, sent_data, sent}
use Rattle.device.specs.declared.Device.{Device}
use Rattle.calls.specs.Calls.{give as give_chain, ask as ask_chain}
use Rattle.calls.specs.Served.{record_of, with_record, served as served_chain, given_back as back_chain, refused_back as refused_chain}
use Rattle.bus.specs.Straps.{matched}
use Rattle.bus.specs.declared.Use.{Use}
use Rattle.bus.specs.declared.Use.TheVariants.{Command, Writing, Reading}
use Rattle.bus.specs.declared.State.{State}
use Rattle.bus.specs.declared.State.TheVariants.{Idle, Slave, Unmatched, Transfer}
use Rattle.bus.specs.BusCalls.{BusCall, start, put, get, stop, give, ask}

-- 001: a slave byte's last bit is "low for a write command, high for a read". One that is nobody's "makes the bus await a start"
abbrev pub opened : ℕ → ℕ → State
opened zero v = Unmatched
opened (suc k) v = Transfer (suc k) (if (odd v) Reading Command)

-- "In a write the first byte is the command address .., later bytes are data"
abbrev pub use_next : Use → Use
use_next Command = Writing
use_next Writing = Writing
use_next Reading = Reading

-- the state that a byte given leaves, which as a slave byte names part m
abbrev pub put_state : ℕ → ℕ → State → State
put_state m v Idle = Idle
put_state m v Slave = opened m v
put_state m v Unmatched = Unmatched
put_state m v (Transfer k u) = Transfer k (use_next u)

-- the state that a served call leaves, on n parts; a start, repeated or not, opens a transaction
abbrev pub next : ℕ → List ℕ → BusCall → State → State
next n σ start s = Slave
next n σ (put v) s = put_state (matched n σ v) v s
next n σ get s = s
next n σ stop s = Idle
next n σ (give j x) s = s
next n σ (ask j x) s = s

-- a part that is given a byte in its transfer
abbrev pub given : Use → ℕ → Device → Device
given Command v d = commanded d v
given Writing v d = received d v
given Reading v d = d

-- a part that is asked for a byte in its transfer
abbrev pub asked : Use → Device → Device
asked Command d = d
asked Writing d = d
asked Reading d = sent d

-- the records that a served call leaves
abbrev pub served : BusCall → State → List Device → List Device
served start s ds = ds
served (put v) Idle ds = ds
served (put v) Slave ds = ds
served (put v) Unmatched ds = ds
served (put v) (Transfer k u) ds = with_record ds k (given u v (record_of ds k))
served get Idle ds = ds
served get Slave ds = ds
served get Unmatched ds = ds
served get (Transfer k u) ds = with_record ds k (asked u (record_of ds k))
served stop s ds = ds
served (give j x) s ds = served_chain (give_chain j x) ds
served (ask j x) s ds = ds

-- a byte given that is acknowledged: 1, and data 0
abbrev pub taken : List ℕ
taken = 1 ∷ 0 ∷ []

-- "the others read 255": 0, and data 255
abbrev pub nobody : List ℕ
nobody = 0 ∷ 255 ∷ []

-- to a slave byte that names part m
abbrev pub slave_reply : ℕ → List ℕ
slave_reply zero = nobody
slave_reply (suc k) = taken

-- to a byte given in a transfer
abbrev pub given_reply : Use → List ℕ
given_reply Command = taken
given_reply Writing = taken
given_reply Reading = nobody

-- to a byte given, which as a slave byte names part m
abbrev pub put_reply : ℕ → State → List ℕ
put_reply m Idle = nobody
put_reply m Slave = slave_reply m
put_reply m Unmatched = nobody
put_reply m (Transfer k u) = given_reply u

-- to a byte asked for in a transfer
abbrev pub asked_reply : Use → Device → List ℕ
asked_reply Command d = nobody
asked_reply Writing d = nobody
asked_reply Reading d = 1 ∷ sent_data d ∷ []

-- what a served call gives back beside the bus state: of a byte, acknowledged and data
abbrev pub given_back : ℕ → List ℕ → BusCall → State → List Device → List ℕ
given_back n σ start s ds = []
given_back n σ (put v) s ds = put_reply (matched n σ v) s
given_back n σ get Idle ds = nobody
given_back n σ get Slave ds = nobody
given_back n σ get Unmatched ds = nobody
given_back n σ get (Transfer k u) ds = asked_reply u (record_of ds k)
given_back n σ stop s ds = []
given_back n σ (give j x) s ds = []
given_back n σ (ask j x) s ds = back_chain (ask_chain j x) ds

-- what a refused call gives back: a number is 0
abbrev pub refused_back : BusCall → List ℕ
refused_back start = []
refused_back (put v) = 0 ∷ 0 ∷ []
refused_back get = 0 ∷ 0 ∷ []
refused_back stop = []
refused_back (give j x) = []
refused_back (ask j x) = refused_chain (ask_chain j x)
