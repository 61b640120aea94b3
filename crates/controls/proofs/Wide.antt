-- The control registers by their widths.
-- Assumes nothing.
use Rattle.ground.proofs.Names.{ℕ, ◌+◌, ◌*◌, ◌%◌, ◌^◌, ◌<◌, arith, Bool, true, false, ◌&&◌, [], ◌∷◌, map, ◌≡◌, ◌≢◌, refl, ap₂, sym, ◌∙◌, eqb, ltb, bit_and, eqb-true, eq-eqb, ne_eqb, ltb-true, ltb-false, lt-ltb, if, all_at, and_left, and_right}
use Rattle.words.specs.declared.Plane.{Plane}
use Rattle.words.specs.declared.Plane.TheVariants.{P0, P1}
use Rattle.words.specs.declared.ControlRegister.{ControlRegister}
use Rattle.words.specs.declared.ControlRegister.TheVariants.{DecodeMode, GlobalIntensity, ScanLimit, GpioData, PortConfiguration, DisplayTest, DigitType}
use Rattle.controls.specs.Controls.{control_written, control_data, sound_controls}
use Rattle.controls.specs.Config.{config_of, phase_bit, config_data, sound_config}
use Rattle.controls.specs.Widths.{width_of, stored_in, address_of, one_bit, Widths}
use Rattle.controls.specs.declared.Controls.{Controls}
use Rattle.controls.specs.declared.Config.{Config}

stored : (x : Controls) (c : ControlRegister) (v : ℕ) → v < 256 → stored_in (control_written x c v) c ≡ v % 2 ^ width_of c
stored x DecodeMode v h = omega arith
stored x GlobalIntensity v h = refl
stored x ScanLimit v h = refl
stored x GpioData v h = refl
stored x PortConfiguration v h = omega arith
stored x DisplayTest v h = refl
stored x DigitType v h = omega arith

module _ (x : Controls) (s : sound_controls x ≡ true) where
  first_three : (ltb x.global 16 ≡ true) × (ltb x.limit 8 ≡ true) × (ltb x.gpio 32 ≡ true)
  first_three = search (and_left, and_right)

  fits : (c : ControlRegister) → width_of c < 8 → stored_in x c < 2 ^ width_of c
  fits DecodeMode h = absurd (omega arith)
  fits GlobalIntensity h = ltb-true x.global 16 first_three.0
  fits ScanLimit h = ltb-true x.limit 8 first_three.1
  fits GpioData h = ltb-true x.gpio 32 first_three.2
  fits PortConfiguration h = absurd (omega arith)
  fits DisplayTest h = ltb-true x.test 2 (search and_right)
  fits DigitType h = absurd (omega arith)

sound : (x : Controls) → ((c : ControlRegister) → stored_in x c < 2 ^ width_of c) → sound_controls x ≡ true
sound x f =
    rw (lt-ltb _ _ (f GlobalIntensity), lt-ltb _ _ (f ScanLimit), lt-ltb _ _ (f GpioData), lt-ltb _ _ (f DisplayTest))

alone : map config_of (0x40 ∷ 0x08 ∷ 0x04 ∷ 0x01 ∷ [])
    ≡ record { i = 1; e = 0; b = 0; s = 0 }
    ∷ record { i = 0; e = 1; b = 0; s = 0 }
    ∷ record { i = 0; e = 0; b = 1; s = 0 }
    ∷ record { i = 0; e = 0; b = 0; s = 1 }
    ∷ []
alone = refl

config_read : (v : ℕ) (phase : Plane) → v < 256 → config_data (config_of v) phase ≡ phase_bit phase * 128 + bit_and v 0x4D
config_read v P0 h = eqb-true _ _ (all_at (λ v. eqb (config_data (config_of v) P0) (phase_bit P0 * 128 + bit_and v 0x4D)) 256 refl v h)
config_read v P1 h = eqb-true _ _ (all_at (λ v. eqb (config_data (config_of v) P1) (phase_bit P1 * 128 + bit_and v 0x4D)) 256 refl v h)

-- what holds of each of the seven registers
each : (P : ControlRegister → Type 0) → P DecodeMode → P GlobalIntensity → P ScanLimit → P GpioData → P PortConfiguration → P DisplayTest → P DigitType
    → (c : ControlRegister) → P c
each P d g l i p t y DecodeMode = d
each P d g l i p t y GlobalIntensity = g
each P d g l i p t y ScanLimit = l
each P d g l i p t y GpioData = i
each P d g l i p t y PortConfiguration = p
each P d g l i p t y DisplayTest = t
each P d g l i p t y DigitType = y

replaced : (x : Controls) (v : ℕ) (c o : ControlRegister)
    → stored_in (control_written x c v) o ≡ if (eqb (address_of o) (address_of c)) (stored_in (control_written x c v) c) (stored_in x o)
replaced x v =
    each _ (each _ refl refl refl refl refl refl refl) (each _ refl refl refl refl refl refl refl) (each _ refl refl refl refl refl refl refl)
    (each _ refl refl refl refl refl refl refl) (each _ refl refl refl refl refl refl refl) (each _ refl refl refl refl refl refl refl)
    (each _ refl refl refl refl refl refl refl)

others : (x : Controls) (c o : ControlRegister) (v : ℕ) → address_of o ≢ address_of c → stored_in (control_written x c v) o ≡ stored_in x o
others x c o v n = replaced x v c o ∙ rw (ne_eqb (address_of o) (address_of c) n)

stored_data : (x : Controls) (g : ℕ) → map (λ c. control_data x c g) (DecodeMode ∷ GlobalIntensity ∷ ScanLimit ∷ PortConfiguration ∷ DisplayTest ∷ [])
    ≡ map (stored_in x) (DecodeMode ∷ GlobalIntensity ∷ ScanLimit ∷ PortConfiguration ∷ DisplayTest ∷ [])
stored_data x g = refl

phases : map phase_bit (P0 ∷ P1 ∷ []) ≡ 1 ∷ 0 ∷ []
phases = refl

-- below 2 is one bit
one_bit_lem : (n : ℕ) → ltb n 2 ≡ one_bit n
one_bit_lem n = go (ltb n 2) refl
  where
    go : (b : Bool) → ltb n 2 ≡ b → b ≡ one_bit n
    go true e = sym (eq-eqb (n % 2) n (omega (arith, ltb-true n 2 e)))
    go false e = sym (ne_eqb (n % 2) n (λ q. omega (arith, ltb-false n 2 e)))

sound_bits : (x : Config) → sound_config x ≡ (one_bit x.i && one_bit x.e && one_bit x.b && one_bit x.s)
sound_bits x = ap₂ ◌&&◌ (ap₂ ◌&&◌ (ap₂ ◌&&◌ (one_bit_lem x.i) (one_bit_lem x.e)) (one_bit_lem x.b)) (one_bit_lem x.s)

pub widths : Widths
widths =
    record {
      stored = stored;
      others = others;
      stored_data = stored_data;
      ports_data = λ x g. refl;
      no_data = λ x g. refl;
      fits = fits;
      sound = sound;
      alone = alone;
      read = config_read;
      phases = phases;
      sound_bits = sound_bits;
    }
