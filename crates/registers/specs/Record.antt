-- Believed: document 01, "What the double covers": a record holds the registers, both digit planes, key state, five pin levels and the
-- blink count. Each of these replaced.
-- Assumes nothing.
use Rattle.std.specs.Prelude.{ℕ, List}
use Rattle.keys.specs.declared.Keys.{Keys}
use Rattle.digits.specs.declared.Planes.{Planes}
use Rattle.controls.specs.declared.Controls.{Controls}
use Rattle.registers.specs.declared.Registers.{Registers}

-- the control registers
abbrev pub with_controls : Registers → Controls → Registers
with_controls x v = record { controls = v; config = x.config; intensities = x.intensities; keys = x.keys; planes = x.planes; pins = x.pins; blink = x.blink }

-- the intensity registers
abbrev pub with_intensities : Registers → List ℕ → Registers
with_intensities x v = record { controls = x.controls; config = x.config; intensities = v; keys = x.keys; planes = x.planes; pins = x.pins; blink = x.blink }

-- the key state
abbrev pub with_keys : Registers → Keys → Registers
with_keys x v = record { controls = x.controls; config = x.config; intensities = x.intensities; keys = v; planes = x.planes; pins = x.pins; blink = x.blink }

-- both digit planes
abbrev pub with_planes : Registers → Planes → Registers
with_planes x v = record { controls = x.controls; config = x.config; intensities = x.intensities; keys = x.keys; planes = v; pins = x.pins; blink = x.blink }

-- the pin levels
abbrev pub with_pins : Registers → ℕ → Registers
with_pins x v = record { controls = x.controls; config = x.config; intensities = x.intensities; keys = x.keys; planes = x.planes; pins = v; blink = x.blink }

-- the blink count
abbrev pub with_blink : Registers → ℕ → Registers
with_blink x v = record { controls = x.controls; config = x.config; intensities = x.intensities; keys = x.keys; planes = x.planes; pins = x.pins; blink = v }
