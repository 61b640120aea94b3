-- The proof of `specs/BothBuses.antt`'s theorem.
-- Assumes nothing.
use Rattle.ground.proofs.Names.{ℕ, ◌+◌, ◌*◌, ◌/◌, ◌%◌, ◌^◌, ◌<◌, arith, true, ◌≡◌, refl, ◌∙◌, eq-eqb, ne_eqb, lt-ltb, bit}
use Rattle.words.specs.Addresses.{word_of}
use Rattle.words.specs.declared.Register.{Register}
use Rattle.words.specs.declared.Word.{Word}
use Rattle.words.specs.declared.Word.TheVariants.{Write, Read}
use Rattle.device.specs.Record.{with_shift}
use Rattle.device.specs.Taken.{obeyed, taken}
use Rattle.device.specs.TwoWire.{next_address, commanded, received, sent_data, sent}
use Rattle.device.specs.BothBuses.{SameRegisters, Address, BothBuses}
use Rattle.device.specs.declared.Device.{Device}
use Rattle.device.proofs.Shift.{shift_word_lem}

module _ (d : Device) (h : d.command < 128) where
  -- the read word's D15 and address
  high : bit 15 (0x8000 + d.command * 256) ≡ true
  high = eq-eqb ((0x8000 + d.command * 256) / 2 ^ 15 % 2) 1 (omega arith)

  place : (0x8000 + d.command * 256) / 256 % 128 ≡ d.command
  place = omega arith

  write_both : (v : ℕ) → v < 256 → (received d v).registers ≡ (taken d (d.command * 256 + v)).registers
  unfolding received taken
  write_both v g =
      let a : (d.command * 256 + v) / 256 % 128 ≡ d.command = omega arith in
      let m : (d.command * 256 + v) % 256 ≡ v = omega arith in
      rw (ne_eqb ((d.command * 256 + v) / 2 ^ 15 % 2) 1 (λ e. omega arith), a, m)

  same_registers : SameRegisters d
  unfolding taken commanded sent sent_data
  same_registers =
      record {
        when_written = write_both;
        when_read = rw (high, place);
        data_read = shift_word_lem.after_read d (0x8000 + d.command * 256) high ∙ rw place;
        when_commanded = λ v. refl;
      }

-- a word leaves the address
obeyed_address : (d : Device) (w : Word Register) → (obeyed d w).command ≡ d.command
obeyed_address d (Write r v) = refl
obeyed_address d (Read r) = refl

-- Table 6 of 001
pub next_more : (a : ℕ) → a < 127 → next_address a ≡ a + 1
next_more a h = rw (lt-ltb a 127 h)

pub next_last : (a : ℕ) → a ≡ 127 → next_address a ≡ 127
next_last a e = rw e

commanded_to : (d : Device) (v : ℕ) → (commanded d v).command ≡ v % 128
unfolding commanded
commanded_to d v = refl

given_steps : (d : Device) (v : ℕ) → (received d v).command ≡ next_address d.command
unfolding received
given_steps d v = refl

asked_steps : (d : Device) → (sent d).command ≡ next_address d.command
unfolding sent
asked_steps d = refl

address_of_lem : (d : Device) → Address d
unfolding taken
address_of_lem d =
    record {
      by_command = commanded_to d;
      by_given = λ v h. given_steps d v ∙ next_more d.command h;
      by_asked = λ h. asked_steps d ∙ next_more d.command h;
      last_given = λ v e. given_steps d v ∙ next_last d.command e;
      last_asked = λ e. asked_steps d ∙ next_last d.command e;
      by_word = λ w. obeyed_address (with_shift d w) (word_of w);
      by_scan = λ a b c e. refl;
      by_pins = λ levels. refl;
      by_clocks = λ clocks. refl;
    }

pub both_buses : BothBuses
unfolding commanded received sent
both_buses =
    record {
      registers = same_registers;
      kept_commanded = λ d v. record { shift = refl; mark = refl };
      kept_given = λ d v. record { shift = refl; mark = refl };
      kept_asked = λ d. record { shift = refl; mark = refl };
      address = address_of_lem;
    }
