-- Believed: document 02, request 3: the bus state as plain numbers, and what it stands for.
-- Assumes nothing.
use Rattle.std.specs.Prelude.{ℕ, Bool, ◌&&◌, eqb, leb, ltb}
use Rattle.ground.specs.Choice.{if}
use Rattle.bus.specs.declared.Bus.{Bus}
use Rattle.bus.specs.declared.Use.{Use}
use Rattle.bus.specs.declared.Use.TheVariants.{Command, Writing, Reading}
use Rattle.bus.specs.declared.State.{State}
use Rattle.bus.specs.declared.State.TheVariants.{Idle, Slave, Unmatched, Transfer}

-- phases 0, 1 and 2 where no part is named
abbrev pub free_at : ℕ → State
free_at p = if (eqb p 0) Idle (if (eqb p 1) Slave Unmatched)

-- and where one is
abbrev pub use_at : ℕ → Use
use_at p = if (eqb p 0) Command (if (eqb p 1) Writing Reading)

-- what a bus state stands for: part 0 is none
abbrev pub state_of : Bus → State
state_of b = if (eqb b.part 0) (free_at b.phase) (Transfer b.part (use_at b.phase))

-- the phase of a transfer
abbrev pub phase_of : Use → ℕ
phase_of Command = 0
phase_of Writing = 1
phase_of Reading = 2

-- the bus state that stands for it
abbrev pub bus_of : State → Bus
bus_of Idle = record { part = 0; phase = 0 }
bus_of Slave = record { part = 0; phase = 1 }
bus_of Unmatched = record { part = 0; phase = 2 }
bus_of (Transfer k u) = record { part = k; phase = phase_of u }

-- "A bus state that names a part not present isn't sound"; nor is one whose phase is above 2
abbrev pub sound_bus : ℕ → Bus → Bool
sound_bus n b = leb b.part n && ltb b.phase 3
