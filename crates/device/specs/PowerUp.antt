-- Believed: document 01, "What the double covers": the power-up record. Its values are Table 15's; a register that the table omits is 0.
-- Assumes nothing.
use Rattle.std.specs.Prelude.{ℕ, List, ◌++◌, replicate}
use Rattle.keys.specs.Keys.{released}
use Rattle.digits.specs.Digits.{eight}
use Rattle.digits.specs.declared.Planes.{Planes}
use Rattle.controls.specs.declared.Controls.{Controls}
use Rattle.controls.specs.declared.Config.{Config}
use Rattle.port_registers.specs.PortPowerUp.{power_up as port_power_up}
use Rattle.device.specs.Record.{with_family}
use Rattle.device.specs.declared.Device.{Device}

-- decode mode 0xFF, global intensity 1/16 (0), scan limit 7, GPIO data 0, port configuration 0x1F, display test 0, digit type 0
abbrev pub controls : Controls
controls = record { decode = 0xFF; global = 0; limit = 7; gpio = 0; ports = 0x1F; test = 0; types = 0 }

-- configuration register, Table 15's "Control Register": shutdown on, slow, blink disabled, global intensity
abbrev pub config : Config
config = record { i = 0; e = 0; b = 0; s = 0 }

-- digits 0 to 7 hold 0x20, digits 0a to 7a hold 0, in both planes
abbrev pub planes : Planes
planes = record { p0 = eight 0x20 ++ eight 0; p1 = eight 0x20 ++ eight 0 }

-- intensities 1/16 (0); no mask set, no key pressed or debounced; pins, blink count and shift word 0; fitted 255; document 02, requests 1 and 3: the answer mark and the command address 0
abbrev pub power_up : Device
power_up =
    record {
      registers =
          record {
            controls = controls;
            config = config;
            intensities = eight 0;
            keys = released;
            planes = planes;
            pins = 0;
            blink = 0;
          };
      shift = 0;
      fitted = 255;
      answer_mark = 0;
      command = 0;
      family = 0;
      ports = port_power_up;
    }

-- document 02, request 8: a MAX6957 at power-up. Both power-up records hold both register files at power-up, and differ in the family alone
abbrev pub power_up6957 : Device
power_up6957 = with_family power_up 1

-- a chain of n drivers at power-up
abbrev pub fresh_chain : ℕ → List Device
fresh_chain n = replicate n power_up
