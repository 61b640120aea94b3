-- Believed: document 01, "Bits on the wire": a word is a write or a read, and names one kind of register; what it leaves, by what a register's write and read do.
-- Assumes nothing.
use Rattle.std.specs.Prelude.{ℕ, ◌+◌, ◌*◌, ◌/◌, ◌%◌}
use Rattle.ground.specs.Choice.{if, bit}
use Rattle.words.specs.declared.Word.{Word}
use Rattle.words.specs.declared.Word.TheVariants.{Write, Read}

-- bits D14 to D8
abbrev pub address_of : ℕ → ℕ
address_of w = w / 256 % 128

-- bit D15 is 1 for a read, D14 to D8 the address, D7 to D0 the data; an address names a register as written, and one as read
abbrev pub decoded : {R : Type 0} → (ℕ → R) → (ℕ → R) → ℕ → Word R
decoded written read w = if (bit 15 w) (Read (read (address_of w))) (Write (written (address_of w)) (w % 256))

-- the registers after a word
abbrev pub obeyed : {F R : Type 0} → (F → R → ℕ → F) → (F → R → F) → F → Word R → F
obeyed written read x (Write r v) = written x r v
obeyed written read x (Read r) = read x r

-- the shift word after it, as clocked: a read gives in D7 to D0 the data that the register had before
abbrev pub shift_by : {F R : Type 0} → (F → R → ℕ) → F → ℕ → Word R → ℕ
shift_by found x w (Write r v) = w
shift_by found x w (Read r) = w / 256 * 256 + found x r
