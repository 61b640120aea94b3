-- Believed: document 01, "Registers": the control registers but configuration (0x04), written and read.
-- Assumes nothing.
use Rattle.std.specs.Prelude.{ℕ, ◌%◌, Bool, ◌&&◌, ltb}
use Rattle.words.specs.declared.ControlRegister.{ControlRegister}
use Rattle.words.specs.declared.ControlRegister.TheVariants.{DecodeMode, GlobalIntensity, ScanLimit, GpioData, PortConfiguration, DisplayTest, DigitType}
use Rattle.controls.specs.declared.Controls.{Controls}

-- a register replaced: global intensity keeps 4 bits, the scan limit 3, GPIO data 5, display test 1
abbrev pub control_written : Controls → ControlRegister → ℕ → Controls
control_written x DecodeMode v =
    record { decode = v; global = x.global; limit = x.limit; gpio = x.gpio; ports = x.ports; test = x.test; types = x.types }
control_written x GlobalIntensity v =
    record { decode = x.decode; global = v % 16; limit = x.limit; gpio = x.gpio; ports = x.ports; test = x.test; types = x.types }
control_written x ScanLimit v =
    record { decode = x.decode; global = x.global; limit = v % 8; gpio = x.gpio; ports = x.ports; test = x.test; types = x.types }
control_written x GpioData v =
    record { decode = x.decode; global = x.global; limit = x.limit; gpio = v % 32; ports = x.ports; test = x.test; types = x.types }
control_written x PortConfiguration v =
    record { decode = x.decode; global = x.global; limit = x.limit; gpio = x.gpio; ports = v; test = x.test; types = x.types }
control_written x DisplayTest v =
    record { decode = x.decode; global = x.global; limit = x.limit; gpio = x.gpio; ports = x.ports; test = v % 2; types = x.types }
control_written x DigitType v =
    record { decode = x.decode; global = x.global; limit = x.limit; gpio = x.gpio; ports = x.ports; test = x.test; types = v }

-- a register's data, gpioData being what GPIO data reads; digit type can't be read
abbrev pub control_data : Controls → ControlRegister → ℕ → ℕ
control_data x DecodeMode gpioData = x.decode
control_data x GlobalIntensity gpioData = x.global
control_data x ScanLimit gpioData = x.limit
control_data x GpioData gpioData = gpioData
control_data x PortConfiguration gpioData = x.ports
control_data x DisplayTest gpioData = x.test
control_data x DigitType gpioData = 0

-- each register fits its width; those of 8 bits do by their type
abbrev pub sound_controls : Controls → Bool
sound_controls x = ltb x.global 16 && ltb x.limit 8 && ltb x.gpio 32 && ltb x.test 2
