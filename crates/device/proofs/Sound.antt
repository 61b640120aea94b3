-- The power-up record is sound, and each step leaves a sound record sound.
-- Assumes nothing.
use Rattle.ground.proofs.Names.{ℕ, ◌+◌, ◌%◌, arith, Bool, true, false, ◌&&◌, and_assoc, ◌≡◌, refl, ltb, lt-ltb, ltb-true, if, and_left, and_right, mod_small}
use mathlib.Core.Bool.{and-true}
use Rattle.words.specs.Addresses.{written_at, read_at, word_of}
use Rattle.words.specs.declared.Register.{Register}
use Rattle.words.specs.declared.Word.{Word}
use Rattle.words.specs.declared.Word.TheVariants.{Write, Read}
use Rattle.keys.specs.Keys.{scanned_keys}
use Rattle.keys.proofs.Sound.{scanned_sound}
use Rattle.blink.specs.Blink.{advanced}
use Rattle.registers.specs.Registers.{written, after_read}
use Rattle.registers.specs.Sound.{sound_registers}
use Rattle.registers.specs.declared.Registers.{Registers}
use Rattle.registers.proofs.Sound.{parts, keys_sound, pins_sound, blink_sound, write_sound, after_sound}
use Rattle.device.specs.Record.{with_registers, with_pins, with_shift, with_mark, with_command}
use Rattle.device.specs.Sound.{sound_of}
use Rattle.device.specs.Taken.{obeyed, taken}
use Rattle.device.specs.Steps.{scanned, clocked}
use Rattle.device.specs.TwoWire.{next_address, commanded, received, sent}
use Rattle.device.specs.Soundness.{bounds, all_below, Soundness}
use Rattle.device.specs.declared.Device.{Device}

-- sound registers, a mark of 0 or 1 and a command address below 128 make a sound record
sound_with : (d : Device) (x : Registers) (m a : ℕ) → sound_registers x ≡ true → ltb m 2 ≡ true → ltb a 128 ≡ true
    → sound_of (with_command (with_mark (with_registers d x) m) a) ≡ true
sound_with d x m a e h g = rw (e, h, g)

pub registers_sound : (d : Device) → sound_of d ≡ true → sound_registers d.registers ≡ true
registers_sound d e = and_left _ (ltb d.answer_mark 2) (and_left _ (ltb d.command 128) e)

mark_sound : (d : Device) → sound_of d ≡ true → ltb d.answer_mark 2 ≡ true
mark_sound d e = and_right (sound_registers d.registers) _ (and_left _ (ltb d.command 128) e)

pub command_sound : (d : Device) → sound_of d ≡ true → ltb d.command 128 ≡ true
command_sound d e = and_right (sound_registers d.registers && ltb d.answer_mark 2) _ e

-- a step that changes registers and the command address, and one that changes registers alone
moved : (d : Device) (x : Registers) (a : ℕ) → ltb a 128 ≡ true → (sound_registers d.registers ≡ true → sound_registers x ≡ true) → sound_of d ≡ true
    → sound_of (with_command (with_registers d x) a) ≡ true
moved d x a h f e = sound_with d x d.answer_mark a (f (registers_sound d e)) (mark_sound d e) h

kept_mark : (d : Device) (x : Registers) → (sound_registers d.registers ≡ true → sound_registers x ≡ true) → sound_of d ≡ true → sound_of (with_registers d x) ≡ true
kept_mark d x f e = moved d x d.command (command_sound d e) f e

obeyed_sound : (d : Device) (w : Word Register) → sound_of d ≡ true → sound_of (obeyed d w) ≡ true
obeyed_sound d (Write r v) e = sound_with d (written d.registers r v) 0 d.command (write_sound d.registers r v (registers_sound d e)) refl (command_sound d e)
obeyed_sound d (Read r) e = sound_with d (after_read d.registers r) 1 d.command (after_sound d.registers r (registers_sound d e)) refl (command_sound d e)

-- the command address is seven bits
next_small : (a : ℕ) → ltb (next_address a) 128 ≡ true
next_small a = go (ltb a 127) refl
  where
    go : (t : Bool) → ltb a 127 ≡ t → ltb (if t (a + 1) 127) 128 ≡ true
    go true t = lt-ltb (a + 1) 128 (omega (arith, ltb-true a 127 t))
    go false t = refl

-- the tests, one after the other
exactly : (d : Device) → sound_of d ≡ all_below (bounds d)
exactly d = simp (and_assoc, and-true)

pub soundness : Soundness
unfolding taken commanded received sent
soundness =
    record {
      exactly = exactly;
      at_power_up = λ fitted. refl;
      after_write = λ d r v. kept_mark d (written d.registers r v) (write_sound d.registers r v);
      after_read = λ d r. kept_mark d (after_read d.registers r) (after_sound d.registers r);
      after_word = λ d w. obeyed_sound (with_shift d w) (word_of w);
      after_scan = λ x a b c d.
          let r = x.registers in
          kept_mark x (scanned x a b c d).registers (λ e. keys_sound r (scanned_keys r.keys r.controls.ports a b c d) (scanned_sound r.keys r.controls.ports a b c d (parts r e).keys) e);
      after_pins = λ d levels h. kept_mark d (with_pins d levels).registers (pins_sound d.registers levels (lt-ltb levels 32 h));
      after_clocks = λ d clocks. kept_mark d (clocked d clocks).registers (blink_sound d.registers (advanced d.registers.blink clocks) (mod_small (d.registers.blink + clocks) 3999999));
      after_commanded = λ d v. moved d d.registers (v % 128) (mod_small v 127) (λ e. e);
      after_received = λ d v. moved d (received d v).registers (next_address d.command) (next_small d.command) (write_sound d.registers (written_at d.command) v);
      after_sent = λ d. moved d (sent d).registers (next_address d.command) (next_small d.command) (after_sound d.registers (read_at d.command));
    }
