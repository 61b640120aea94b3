-- Auxiliary: the kinds of a script's records, by their bytes.
-- Assumes nothing.
use Rattle.std.specs.Prelude.{ℕ, false, Result, Ok, Err, ◌≡◌}
use Rattle.printed.specs.Format.{length_fits}
use Rattle.script_records.specs.declared.format.Kind.{Kind}
use Rattle.script_records.specs.declared.format.UnknownKind.{UnknownKind}
use Rattle.script_records.specs.declared.format.Kind.TheVariants.{Chain, Access, Scan, Pins, Clocks, Show}

-- the byte of a kind
abbrev pub kind_number : Kind → ℕ
kind_number Chain = 1
kind_number Access = 2
kind_number Scan = 3
kind_number Pins = 4
kind_number Clocks = 5
kind_number Show = 6

-- what a byte tells: its kind, or that no body fits it
abbrev pub Tells : ℕ → Result Kind UnknownKind → Type 0
Tells byte (Ok kind) = kind_number kind ≡ byte
Tells byte (Err _) = (n : ℕ) → length_fits byte n ≡ false
