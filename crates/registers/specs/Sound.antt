-- Believed: document 01, "What the double covers": a record is sound when every field fits its register's width and the blink count
-- is below 4,000,000. Fields as wide as their type are not tested.
-- Assumes nothing.
use Rattle.std.specs.Prelude.{Bool, ◌&&◌, ltb}
use Rattle.keys.specs.Keys.{sound_keys}
use Rattle.controls.specs.Controls.{sound_controls}
use Rattle.controls.specs.Config.{sound_config}
use Rattle.registers.specs.declared.Registers.{Registers}

-- the pin levels are five bits
abbrev pub sound_registers : Registers → Bool
sound_registers x =
    sound_controls x.controls
    && sound_config x.config
    && sound_keys x.keys
    && ltb x.pins 32
    && ltb x.blink 4000000
