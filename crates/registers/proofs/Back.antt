-- Every register reads back as written, and other registers as they did.
-- Assumes nothing.
use Rattle.ground.proofs.Names.{ℕ, ◌/◌, ◌%◌, ◌^◌, ◌<◌, arith, ◌++◌, ◌∷◌, map, ◌≡◌, ◌≢◌, refl, length, bit_and, bit_or, and_le_r, get_or-set_same, get_or-set_other, bit, odd}
use Rattle.words.specs.declared.Plane.{Plane}
use Rattle.words.specs.declared.Plane.TheVariants.{P0, P1}
use Rattle.words.specs.declared.KeyGroup.{KeyGroup}
use Rattle.words.specs.declared.Register.TheVariants.{Control, Configuration, KeyMask, KeyDebounced, KeyPressed, Intensity, Digit}
use Rattle.words.specs.declared.ControlRegister.{ControlRegister}
use Rattle.words.specs.declared.ControlRegister.TheVariants.{GpioData}
use Rattle.keys.specs.Keys.{group_of, groups_of, closed_of, newly, scanned_keys}
use Rattle.keys.specs.KeyByKey.{place_of, keys_of}
use Rattle.keys.proofs.Keyed.{each, key_by_key}
use Rattle.blink.specs.Blink.{phase_at}
use Rattle.digits.specs.Digits.{plane_of}
use Rattle.digits.proofs.Each.{digit_by_digit}
use Rattle.ports.specs.PortByPort.{port_level}
use Rattle.ports.proofs.Ported.{port_by_port}
use Rattle.controls.specs.Config.{phase_bit}
use Rattle.controls.specs.Widths.{width_of}
use Rattle.controls.proofs.Wide.{widths}
use Rattle.registers.specs.Record.{with_keys}
use Rattle.registers.specs.Registers.{written, data_of, phase_of}
use Rattle.registers.specs.ReadBack.{plain, controls_read, reports, intensities_read, digits_read, Alike, ReadBack}
use Rattle.registers.specs.declared.Registers.{Registers}

control : (x : Registers) (v : ℕ) → v < 256 → map (λ c. data_of (written x (Control c) v) (Control c)) plain ≡ map (λ c. v % 2 ^ width_of c) plain
control x v h = let e : v % 256 ≡ v = omega arith in rw e

configuration : (x : Registers) (v : ℕ) → v < 256 → data_of (written x Configuration v) Configuration % 128 ≡ bit_and v 0x4D
configuration x v h = rw (widths.read v (phase_of (written x Configuration v)) h) (omega (arith, and_le_r v 0x4D))

intensity : (x : Registers) (j v : ℕ) → length x.intensities ≡ 8 → j < 8 → data_of (written x (Intensity j) v) (Intensity j) ≡ v
intensity x j v l h = get_or-set_same x.intensities j v 0 (omega (arith, l))

other_intensities : (x : Registers) (i j v : ℕ) → j ≢ i → data_of (written x (Intensity i) v) (Intensity j) ≡ data_of x (Intensity j)
other_intensities x i j v n = get_or-set_other x.intensities i j v 0 n

digit : (x : Registers) (p : Plane) (i v : ℕ) → length (plane_of x.planes p) ≡ 16 → i < 16 → data_of (written x (Digit p i) v) (Digit p i) ≡ v
digit x p i v l h = digit_by_digit.written x.planes p i v l h

by_mask : (x : Registers) (g : KeyGroup) (v : ℕ)
    → Alike x (written x (KeyMask g) v) (Control GpioData ∷ Configuration ∷ controls_read ++ reports ++ intensities_read ++ digits_read)
by_mask x g v = each (λ h. Alike x (written x (KeyMask h) v) (Control GpioData ∷ Configuration ∷ controls_read ++ reports ++ intensities_read ++ digits_read)) refl refl refl refl g

mask : (x : Registers) (g : KeyGroup) (v : ℕ) → (group_of (written x (KeyMask g) v).keys g).mask ≡ v
mask x g v = key_by_key.masked x.keys g v

pins_kept : (x : Registers) (c : ControlRegister) (v : ℕ) → (written x (Control c) v).pins ≡ x.pins
pins_kept x c v = refl

other_plane : (x : Registers) (i j v : ℕ)
    → (data_of (written x (Digit P0 i) v) (Digit P1 j) ≡ data_of x (Digit P1 j)) × (data_of (written x (Digit P1 i) v) (Digit P0 j) ≡ data_of x (Digit P0 j))
other_plane x i j v = (refl, refl)

module _ (x : Registers) (ports a b c d : ℕ) where
  pressed : (g : KeyGroup) → data_of (with_keys x (scanned_keys x.keys ports a b c d)) (KeyPressed g) ≡ closed_of ports (place_of g) (keys_of a b c d g)
  pressed = each _ refl refl refl refl

  debounced : (g : KeyGroup) → data_of (with_keys x (scanned_keys x.keys ports a b c d)) (KeyDebounced g)
      ≡ bit_or (data_of x (KeyDebounced g)) (newly (group_of x.keys g) (closed_of ports (place_of g) (keys_of a b c d g)))
  debounced = each _ refl refl refl refl

gpio_data : (x : Registers) (p : ℕ) → p < 5
    → bit p (data_of x (Control GpioData)) ≡ port_level (groups_of x.controls.ports) x.controls.ports x.controls.gpio x.pins x.keys.interrupt p
gpio_data x p h = port_by_port.level x.controls.ports x.controls.gpio x.pins x.keys.interrupt p h

phase : (x : Registers) → data_of x Configuration / 128 ≡ phase_bit (phase_at x.blink (odd x.config.b))
phase x = omega arith

pub read_back : ReadBack
read_back =
    record {
      control = control;
      configuration = configuration;
      intensity = intensity;
      digit = digit;
      both_planes = λ x p i v l h. digit_by_digit.written_both x.planes p i v l h;
      other_intensities = other_intensities;
      other_digits = λ x p i j v n. digit_by_digit.others_written x.planes p i j v n;
      other_plane = other_plane;
      beside_both = λ x p i j v n. digit_by_digit.others_both x.planes p i j v n;
      by_control = λ x c v. refl;
      by_configuration = λ x v. refl;
      by_mask = by_mask;
      by_intensity = λ x j v. refl;
      by_digit = λ x p i v. refl;
      by_both = λ x i v. refl;
      mask = mask;
      pins_kept = pins_kept;
      by_pins = λ x n. refl;
      by_keys = λ x k. refl;
      by_clocks = λ x n. refl;
      pressed = pressed;
      debounced = debounced;
      gpio_data = gpio_data;
      phase = phase;
    }
