-- Believed: document 02, request 6: the words that a redraw may use, and the lists of them that one driver accepts.
-- Assumes nothing.
use Rattle.std.specs.Prelude.{ℕ, ◌/◌, ◌%◌, ◌<◌, Bool, true, not, ◌&&◌, ◌||◌, List, [], ◌∷◌, ◌≡◌, eqb, length, get_or}
use Rattle.ground.specs.Choice.{bit}
use Rattle.digits.specs.declared.Planes.{Planes}
use Rattle.controls.specs.Config.{config_of}
use Rattle.controls.specs.declared.Config.{Config}
use Rattle.device.specs.Table15.{after_words}
use Rattle.device.specs.declared.Device.{Device}

-- "digit writes": 0x20+d, 0x40+d and 0x60+d, with any data
abbrev pub digit_write : ℕ → Bool
digit_write w = eqb (w / 4096) 2 || eqb (w / 4096) 4 || eqb (w / 4096) 6

-- I, E, B and S are the same
abbrev pub same_config : Config → Config → Bool
same_config x y = eqb x.i y.i && eqb x.e y.e && eqb x.b y.b && eqb x.s y.s

-- "T, P and X 0"
abbrev pub zero_tpx : ℕ → Bool
zero_tpx v = not (bit 4 v) && not (bit 7 v) && not (bit 1 v)

-- configuration data that "keep I, E, B and S with T, P and X 0"; "a configuration write may clear": R either way
abbrev pub keeps : Config → ℕ → Bool
keeps c v = same_config (config_of v) c && zero_tpx v

-- "Only the no-op 0000, digit writes, and configuration writes that keep" these bits of a driver's configuration
abbrev pub allowed_by : Config → ℕ → Bool
allowed_by c w = eqb w 0 || digit_write w || eqb (w / 256) 4 && keeps c (w % 256)

-- a word that a redraw may give to a driver: by the configuration that it begins with, which all such words keep
abbrev pub allowed : Device → ℕ → Bool
allowed d w = allowed_by d.registers.config w

-- f holds of each
unfoldable pub every : (ℕ → Bool) → List ℕ → Bool
every f [] = true
every f (w ∷ ws) = f w && every f ws

-- a driver's words: "holds these words alone", and "ends in the wanted planes" when it takes them one after the other
pub record Accepted (d : Device) (wanted : Planes) (ws : List ℕ) : Type 0 where
  pub alone : every (allowed d) ws ≡ true
  pub ends : (after_words d ws).registers.planes ≡ wanted

-- planes of sixteen digits, as their type has it
pub record Sized (p : Planes) : Type 0 where
  pub first : length p.p0 ≡ 16
  pub second : length p.p1 ≡ 16

-- wanted contents of one driver: sixteen bytes in each plane
pub record Wanted (q : Planes) : Type 0 where
  pub sized : Sized q
  pub first : (k : ℕ) → get_or q.p0 k 0 < 256
  pub second : (k : ℕ) → get_or q.p1 k 0 < 256
