-- Believed: document 01, "Registers", "Keys" and "Ports": every register reads back what was written to it, and a write changes what no other register reads.
-- Assumes nothing.
use Rattle.std.specs.Prelude.{ℕ, ◌%◌, ◌^◌, ◌/◌, ◌<◌, List, [], ◌∷◌, ◌++◌, map, ◌≢◌, ◌≡◌, length}
use Rattle.std.specs.Int.Bits.{bit_and, bit_or}
use Rattle.ground.specs.Choice.{bit, odd}
use Rattle.words.specs.declared.Plane.{Plane}
use Rattle.words.specs.declared.Plane.TheVariants.{P0, P1}
use Rattle.words.specs.declared.KeyGroup.{KeyGroup}
use Rattle.words.specs.declared.KeyGroup.TheVariants.{A, B, C, D}
use Rattle.words.specs.declared.ControlRegister.{ControlRegister}
use Rattle.words.specs.declared.ControlRegister.TheVariants.{DecodeMode, GlobalIntensity, ScanLimit, GpioData, PortConfiguration, DisplayTest}
use Rattle.words.specs.declared.Register.{Register}
use Rattle.words.specs.declared.Register.TheVariants.{Control, Configuration, KeyMask, KeyDebounced, KeyPressed, Intensity, Digit, BothPlanes}
use Rattle.keys.specs.Keys.{group_of, groups_of, closed_of, newly, scanned_keys}
use Rattle.keys.specs.KeyByKey.{place_of, keys_of}
use Rattle.keys.specs.declared.Keys.{Keys}
use Rattle.blink.specs.Blink.{phase_at}
use Rattle.ports.specs.PortByPort.{port_level}
use Rattle.digits.specs.Digits.{plane_of}
use Rattle.controls.specs.Widths.{width_of}
use Rattle.controls.specs.Config.{phase_bit}
use Rattle.registers.specs.Record.{with_keys, with_pins, with_blink}
use Rattle.registers.specs.Registers.{written, data_of}
use Rattle.registers.specs.declared.Registers.{Registers}

-- the control registers that read what they store
abbrev pub plain : List ControlRegister
plain = DecodeMode ∷ GlobalIntensity ∷ ScanLimit ∷ PortConfiguration ∷ DisplayTest ∷ []

-- the same as registers
abbrev pub controls_read : List Register
controls_read = map Control plain

-- 0x08 to 0x0F
abbrev pub reports : List Register
reports = KeyDebounced A ∷ KeyDebounced B ∷ KeyDebounced C ∷ KeyDebounced D ∷ KeyPressed A ∷ KeyPressed B ∷ KeyPressed C ∷ KeyPressed D ∷ []

-- 0x10 to 0x17
abbrev pub intensities_read : List Register
intensities_read = map Intensity (0 ∷ 1 ∷ 2 ∷ 3 ∷ 4 ∷ 5 ∷ 6 ∷ 7 ∷ [])

-- 0x20 to 0x2F, or 0x40 to 0x4F
abbrev pub plane_read : Plane → List Register
plane_read p = map (Digit p) (0 ∷ 1 ∷ 2 ∷ 3 ∷ 4 ∷ 5 ∷ 6 ∷ 7 ∷ 8 ∷ 9 ∷ 10 ∷ 11 ∷ 12 ∷ 13 ∷ 14 ∷ 15 ∷ [])

-- both planes
abbrev pub digits_read : List Register
digits_read = plane_read P0 ++ plane_read P1

-- registers y read in some places as x does
abbrev pub Alike : Registers → Registers → List Register → Type 0
Alike x y places = map (data_of y) places ≡ map (data_of x) places

-- whatever the registers hold
pub record ReadBack : Type 0 where
  -- the bits that a register has read as written
  pub control : (x : Registers) (v : ℕ) → v < 256 → map (λ c. data_of (written x (Control c) v) (Control c)) plain ≡ map (λ c. v % 2 ^ width_of c) plain
  pub configuration : (x : Registers) (v : ℕ) → v < 256 → data_of (written x Configuration v) Configuration % 128 ≡ bit_and v 0x4D
  pub intensity : (x : Registers) (j v : ℕ) → length x.intensities ≡ 8 → j < 8 → data_of (written x (Intensity j) v) (Intensity j) ≡ v
  pub digit : (x : Registers) (p : Plane) (i v : ℕ) → length (plane_of x.planes p) ≡ 16 → i < 16 → data_of (written x (Digit p i) v) (Digit p i) ≡ v
  pub both_planes : (x : Registers) (p : Plane) (i v : ℕ) → length (plane_of x.planes p) ≡ 16 → i < 16 → data_of (written x (BothPlanes i) v) (Digit p i) ≡ v
  -- no other intensity or digit does
  pub other_intensities : (x : Registers) (i j v : ℕ) → j ≢ i → data_of (written x (Intensity i) v) (Intensity j) ≡ data_of x (Intensity j)
  pub other_digits : (x : Registers) (p : Plane) (i j v : ℕ) → j ≢ i → data_of (written x (Digit p i) v) (Digit p j) ≡ data_of x (Digit p j)
  pub other_plane : (x : Registers) (i j v : ℕ)
      → (data_of (written x (Digit P0 i) v) (Digit P1 j) ≡ data_of x (Digit P1 j)) × (data_of (written x (Digit P1 i) v) (Digit P0 j) ≡ data_of x (Digit P0 j))
  pub beside_both : (x : Registers) (p : Plane) (i j v : ℕ) → j ≢ i → data_of (written x (BothPlanes i) v) (Digit p j) ≡ data_of x (Digit p j)
  -- nor any register of another kind, but GPIO data by port configuration, and digits by R
  pub by_control : (x : Registers) (c : ControlRegister) (v : ℕ) → Alike x (written x (Control c) v) (Configuration ∷ reports ++ intensities_read ++ digits_read)
  pub by_configuration : (x : Registers) (v : ℕ) → Alike x (written x Configuration v) (Control GpioData ∷ controls_read ++ reports ++ intensities_read)
  pub by_mask : (x : Registers) (g : KeyGroup) (v : ℕ)
      → Alike x (written x (KeyMask g) v) (Control GpioData ∷ Configuration ∷ controls_read ++ reports ++ intensities_read ++ digits_read)
  pub by_intensity : (x : Registers) (j v : ℕ) → Alike x (written x (Intensity j) v) (Control GpioData ∷ Configuration ∷ controls_read ++ reports ++ digits_read)
  pub by_digit : (x : Registers) (p : Plane) (i v : ℕ) → Alike x (written x (Digit p i) v) (Control GpioData ∷ Configuration ∷ controls_read ++ reports ++ intensities_read)
  pub by_both : (x : Registers) (i v : ℕ) → Alike x (written x (BothPlanes i) v) (Control GpioData ∷ Configuration ∷ controls_read ++ reports ++ intensities_read)
  -- a mask can't be read, but is stored; a control register leaves the pins
  pub mask : (x : Registers) (g : KeyGroup) (v : ℕ) → (group_of (written x (KeyMask g) v).keys g).mask ≡ v
  pub pins_kept : (x : Registers) (c : ControlRegister) (v : ℕ) → (written x (Control c) v).pins ≡ x.pins
  -- pin levels change GPIO data alone, keys also the reports, the blink count P
  pub by_pins : (x : Registers) (n : ℕ) → Alike x (with_pins x n) (Configuration ∷ controls_read ++ reports ++ intensities_read ++ digits_read)
  pub by_keys : (x : Registers) (k : Keys) → Alike x (with_keys x k) (Configuration ∷ controls_read ++ intensities_read ++ digits_read)
  pub by_clocks : (x : Registers) (n : ℕ) → Alike x (with_blink x n) (Control GpioData ∷ controls_read ++ reports ++ intensities_read ++ digits_read)
  -- "Keys": pressed keys read this scan, debounced keys gain those newly debounced
  pub pressed : (x : Registers) (ports a b c d : ℕ) (g : KeyGroup)
      → data_of (with_keys x (scanned_keys x.keys ports a b c d)) (KeyPressed g) ≡ closed_of ports (place_of g) (keys_of a b c d g)
  pub debounced : (x : Registers) (ports a b c d : ℕ) (g : KeyGroup)
      → data_of (with_keys x (scanned_keys x.keys ports a b c d)) (KeyDebounced g)
      ≡ bit_or (data_of x (KeyDebounced g)) (newly (group_of x.keys g) (closed_of ports (place_of g) (keys_of a b c d g)))
  -- "Ports": GPIO data port by port, from the stored data, the pins and the interrupt
  pub gpio_data : (x : Registers) (p : ℕ) → p < 5
      → bit p (data_of x (Control GpioData)) ≡ port_level (groups_of x.controls.ports) x.controls.ports x.controls.gpio x.pins x.keys.interrupt p
  -- P: the phase, slow where B=0
  pub phase : (x : Registers) → data_of x Configuration / 128 ≡ phase_bit (phase_at x.blink (odd x.config.b))
