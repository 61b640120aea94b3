-- What is written fits its register's width.
-- Assumes nothing.
use Rattle.ground.proofs.Names.{ℕ, ◌/◌, true, ◌≡◌, ltb, and_left, and_right, mod_small}
use Rattle.words.specs.declared.ControlRegister.{ControlRegister}
use Rattle.words.specs.declared.ControlRegister.TheVariants.{DecodeMode, GlobalIntensity, ScanLimit, GpioData, PortConfiguration, DisplayTest, DigitType}
use Rattle.controls.specs.Controls.{control_written, sound_controls}
use Rattle.controls.specs.Config.{config_of, sound_config}
use Rattle.controls.specs.declared.Controls.{Controls}

-- the four tests of `sound_controls`
record Parts (x : Controls) : Type 0 where
  global : ltb x.global 16 ≡ true
  limit : ltb x.limit 8 ≡ true
  gpio : ltb x.gpio 32 ≡ true
  test : ltb x.test 2 ≡ true

parts : (x : Controls) → sound_controls x ≡ true → Parts x
parts x e = search (and_left, and_right)

pub written_sound : (x : Controls) (c : ControlRegister) (v : ℕ) → sound_controls x ≡ true → sound_controls (control_written x c v) ≡ true
written_sound x DecodeMode v e = e
written_sound x GlobalIntensity v e = let p = parts x e in rw (mod_small v 15, p.limit, p.gpio, p.test)
written_sound x ScanLimit v e = let p = parts x e in rw (p.global, mod_small v 7, p.gpio, p.test)
written_sound x GpioData v e = let p = parts x e in rw (p.global, p.limit, mod_small v 31, p.test)
written_sound x PortConfiguration v e = e
written_sound x DisplayTest v e = let p = parts x e in rw (p.global, p.limit, p.gpio, mod_small v 1)
written_sound x DigitType v e = e

pub stored_sound : (v : ℕ) → sound_config (config_of v) ≡ true
stored_sound v = rw (mod_small (v / 64) 1, mod_small (v / 8) 1, mod_small (v / 4) 1, mod_small v 1)
