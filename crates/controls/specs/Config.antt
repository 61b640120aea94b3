-- Believed: document 01, "Registers": 0x04 configuration, bits P I R T E B X S.
-- Assumes nothing.
use Rattle.std.specs.Prelude.{ℕ, ◌+◌, ◌*◌, ◌/◌, ◌%◌, Bool, ◌&&◌, ltb}
use Rattle.words.specs.declared.Plane.{Plane}
use Rattle.words.specs.declared.Plane.TheVariants.{P0, P1}
use Rattle.controls.specs.declared.Config.{Config}

-- I, E, B, S are stored; P can't be written
abbrev pub config_of : ℕ → Config
config_of v = record { i = v / 64 % 2; e = v / 8 % 2; b = v / 4 % 2; s = v % 2 }

-- P reads 1 in the P0 phase, 0 in the P1 phase (Table 24)
abbrev pub phase_bit : Plane → ℕ
phase_bit P0 = 1
phase_bit P1 = 0

-- P I 0 0 E B 0 S: R, T and X read 0
abbrev pub config_data : Config → Plane → ℕ
config_data x phase = phase_bit phase * 128 + x.i % 2 * 64 + x.e % 2 * 8 + x.b % 2 * 4 + x.s % 2

-- one bit each
abbrev pub sound_config : Config → Bool
sound_config x = ltb x.i 2 && ltb x.e 2 && ltb x.b 2 && ltb x.s 2
