-- Believed: document 01, "Registers": what a write stores, what a read gives and leaves.
-- Assumes nothing.
use Rattle.std.specs.Prelude.{ℕ, get_or, set}
use Rattle.ground.specs.Choice.{if, bit, odd}
use Rattle.words.specs.declared.Plane.{Plane}
use Rattle.words.specs.declared.Register.{Register}
use Rattle.words.specs.declared.Register.TheVariants.{NoOp, Control, Configuration, KeyMask, KeyDebounced, KeyPressed, Intensity, Digit, BothPlanes, Unlisted}
use Rattle.keys.specs.Keys.{mask_written, debounced_read, group_of}
use Rattle.blink.specs.Blink.{restarted, phase_at}
use Rattle.ports.specs.Ports.{port_data}
use Rattle.digits.specs.Digits.{plane_of, digit_written, both_written, cleared}
use Rattle.controls.specs.Controls.{control_written, control_data}
use Rattle.controls.specs.Config.{config_of, config_data}
use Rattle.registers.specs.Record.{with_controls, with_intensities, with_keys, with_planes}
use Rattle.registers.specs.declared.Registers.{Registers}

-- configuration written: I, E, B, S are stored; R=1 sets all 32 plane bytes to 0 and T=1 the blink count to 0, both once
abbrev pub configured : Registers → ℕ → Registers
configured x v =
    record {
      controls = x.controls;
      config = config_of v;
      intensities = x.intensities;
      keys = x.keys;
      planes = if (bit 5 v) cleared x.planes;
      pins = x.pins;
      blink = restarted x.blink (bit 4 v);
    }

-- a register written; the no-op, key reports and unlisted addresses take nothing
abbrev pub written : Registers → Register → ℕ → Registers
written x NoOp v = x
written x (Control c) v = with_controls x (control_written x.controls c v)
written x Configuration v = configured x v
written x (KeyMask g) v = with_keys x (mask_written x.keys g v)
written x (KeyDebounced g) v = x
written x (KeyPressed g) v = x
written x (Intensity j) v = with_intensities x (set x.intensities j v)
written x (Digit p i) v = with_planes x (digit_written x.planes p i v)
written x (BothPlanes i) v = with_planes x (both_written x.planes i v)
written x Unlisted v = x

-- the blink phase: slow where B=0
abbrev pub phase_of : Registers → Plane
phase_of x = phase_at x.blink (odd x.config.b)

-- GPIO data as read
abbrev pub gpio_data_of : Registers → ℕ
gpio_data_of x = port_data x.controls.ports x.controls.gpio x.pins x.keys.interrupt

-- a register's data; the no-op reads 0, masks can't be read, 0x60+d reads as 0x00 (Table 6), unlisted addresses read 0
abbrev pub data_of : Registers → Register → ℕ
data_of x NoOp = 0
data_of x (Control c) = control_data x.controls c (gpio_data_of x)
data_of x Configuration = config_data x.config (phase_of x)
data_of x (KeyMask g) = 0
data_of x (KeyDebounced g) = (group_of x.keys g).debounced
data_of x (KeyPressed g) = (group_of x.keys g).pressed
data_of x (Intensity j) = get_or x.intensities j 0
data_of x (Digit p i) = get_or (plane_of x.planes p) i 0
data_of x (BothPlanes i) = 0
data_of x Unlisted = 0

-- the registers after a register's data was taken: reading a debounced register clears it, and clears the interrupt
abbrev pub after_read : Registers → Register → Registers
after_read x NoOp = x
after_read x (Control c) = x
after_read x Configuration = x
after_read x (KeyMask g) = x
after_read x (KeyDebounced g) = with_keys x (debounced_read x.keys g)
after_read x (KeyPressed g) = x
after_read x (Intensity j) = x
after_read x (Digit p i) = x
after_read x (BothPlanes i) = x
after_read x Unlisted = x
