-- Drivers of both families: the proof of `specs/BothFamilies.antt`'s theorem.
--     old_takes, old-pinned        a driver that is no MAX6957
-- Assumes nothing.
use Rattle.ground.proofs.Names.{ℕ, ◌/◌, ◌%◌, ◌<◌, Bool, true, false, ◌≡◌, refl, ap, ◌∙◌, eqb, ltb, eqb-true, eq-eqb, ne_eqb, if, bit, and_left, and_right}
use Rattle.words.specs.Addresses.{read_at, word_of}
use Rattle.words.specs.declared.Register.{Register}
use Rattle.words.specs.declared.Word.{Word}
use Rattle.words.specs.declared.Word.TheVariants.{Write, Read}
use Rattle.registers.specs.Registers.{data_of}
use Rattle.port_words.specs.PortAddresses.{register_at}
use Rattle.port_registers.specs.PortRegisters.{data_of as port_data}
use Rattle.port_registers.specs.PortTaken.{pinned as port_pinned}
use Rattle.port_registers.specs.PortSound.{sound_ports}
use Rattle.port_registers.proofs.Sound.{soundness as port-soundness}
use Rattle.device.specs.Record.{with_pins, with_shift, with_ports}
use Rattle.device.specs.Sound.{sound_of}
use Rattle.device.specs.Taken.{answer_word, obeyed, taken}
use Rattle.device.specs.Steps.{scanned, clocked}
use Rattle.device.specs.TwoWire.{commanded, received, sent}
use Rattle.device.specs.Families.{ports_taken, takes, pinned, data_at, port_sound, sound_record}
use Rattle.device.specs.BothFamilies.{SoundSteps, Kept, BothFamilies}
use Rattle.device.specs.declared.Device.{Device}
use Rattle.device.proofs.Sound.{soundness, registers_sound, command_sound}
use Rattle.device.proofs.Shift.{shift_word_lem}
use Rattle.device.proofs.Fitted.{fitted_byte}
use Rattle.device.proofs.Both.{both_buses}

-- ---- a driver that is no MAX6957
pub old_takes : (d : Device) (w : ℕ) → eqb d.family 1 ≡ false → takes d w ≡ taken d w
unfolding takes
old_takes d w e = rw e

pub old_pinned : (d : Device) (l : ℕ) → eqb d.family 1 ≡ false → pinned d l ≡ with_pins d l
unfolding pinned
old_pinned d l e = rw e

-- ---- what the old family's steps keep
obeyed_family : (d : Device) (w : Word Register) → (obeyed d w).family ≡ d.family
obeyed_family d (Write r v) = refl
obeyed_family d (Read r) = refl

obeyed_ports : (d : Device) (w : Word Register) → (obeyed d w).ports ≡ d.ports
obeyed_ports d (Write r v) = refl
obeyed_ports d (Read r) = refl

taken_family : (d : Device) (w : ℕ) → (taken d w).family ≡ d.family
unfolding taken
taken_family d w = obeyed_family (with_shift d w) (word_of w)

taken_ports : (d : Device) (w : ℕ) → (taken d w).ports ≡ d.ports
unfolding taken
taken_ports d w = obeyed_ports (with_shift d w) (word_of w)

-- ---- soundness by family
if_keeps : (a b x y x' y' : Bool) → (x ≡ true → x' ≡ true) → (y ≡ true → y' ≡ true) → if a x (if b y true) ≡ true → if a x' (if b y' true) ≡ true
if_keeps true b x y x' y' f g e = f e
if_keeps false true x y x' y' f g e = g e
if_keeps false false x y x' y' f g e = refl

-- a step that keeps the family, and the soundness of each
sound_by : (d e : Device) → e.family ≡ d.family → (sound_of d ≡ true → sound_of e ≡ true) → (port_sound d ≡ true → port_sound e ≡ true) → sound_record d ≡ true → sound_record e ≡ true
unfolding sound_record
sound_by d e q f g s = rw q (if_keeps (eqb d.family 0) (eqb d.family 1) (sound_of d) (port_sound d) (sound_of e) (port_sound e) f g s)

mark_small : (b : Bool) → ltb (if b 1 0) 2 ≡ true
mark_small true = refl
mark_small false = refl

old_word : (d : Device) (w : ℕ) → sound_record d ≡ true → sound_record (taken d w) ≡ true
old_word d w =
    sound_by d (taken d w) (taken_family d w) (soundness.after_word d w)
    (λ e. rw (taken_ports d w, shift_word_lem.marked d w, and_left (sound_ports d.ports) (ltb d.answer_mark 2) e) (mark_small (bit 15 w)))

ports_word : (d : Device) (w : ℕ) → sound_record d ≡ true → sound_record (ports_taken d w) ≡ true
ports_word d w =
    sound_by d (ports_taken d w) refl
    (λ e. rw (registers_sound d e, mark_small (bit 15 w), command_sound d e))
    (λ e. rw (port-soundness.after_word d.ports w (and_left (sound_ports d.ports) (ltb d.answer_mark 2) e), mark_small (bit 15 w)))

word_sound : (d : Device) (w : ℕ) → sound_record d ≡ true → sound_record (takes d w) ≡ true
unfolding takes
word_sound d w s = elim (eqb d.family 1) as (λ b. sound_record (if b (ports_taken d w) (taken d w)) ≡ true) [ true ↦ ports_word d w s | false ↦ old_word d w s ]

pins_sound : (d : Device) (l : ℕ) → (d.family ≡ 0 → l < 32) → (d.family ≡ 1 → l < 268435456) → sound_record d ≡ true → sound_record (pinned d l) ≡ true
unfolding pinned sound_record
pins_sound d l h g s = go (eqb d.family 1) refl s
  where
    go : (b : Bool) → eqb d.family 1 ≡ b → if (eqb d.family 0) (sound_of d) (if b (port_sound d) true) ≡ true
        → sound_record (if b (with_ports d (port_pinned d.ports l)) (with_pins d l)) ≡ true
    go true e s =
        let z : eqb d.family 0 ≡ false = rw (eqb-true d.family 1 e) in
        let s' : port_sound d ≡ true = rw z at s in
        rw (z, e, port-soundness.after_pins d.ports l (g (eqb-true d.family 1 e)) (and_left (sound_ports d.ports) (ltb d.answer_mark 2) s'), and_right (sound_ports d.ports) (ltb d.answer_mark 2) s')
    go false e s = other (eqb d.family 0) refl s
      where
        other : (a : Bool) → eqb d.family 0 ≡ a → if a (sound_of d) true ≡ true → if a (sound_of (with_pins d l)) (if (eqb d.family 1) (port_sound d) true) ≡ true
        other true z s = soundness.after_pins d l (h (eqb-true d.family 0 z)) s
        other false z s = rw e

sound_steps : SoundSteps
unfolding sound_record commanded received sent
sound_steps =
    record {
      at_power_up = λ fitted. (refl, refl);
      after_word = word_sound;
      after_scan = λ x a b c d. sound_by x (scanned x a b c d) refl (soundness.after_scan x a b c d) (λ e. e);
      after_pins = pins_sound;
      after_clocks = λ d clocks. sound_by d (clocked d clocks) refl (soundness.after_clocks d clocks) (λ e. e);
      after_commanded = λ d v. sound_by d (commanded d v) refl (soundness.after_commanded d v) (λ e. e);
      after_received = λ d v. sound_by d (received d v) refl (soundness.after_received d v) (λ e. e);
      after_sent = λ d. sound_by d (sent d) refl (soundness.after_sent d) (λ e. e);
    }

-- ---- the word taken
word_write : (d : Device) (w : ℕ) → bit 15 w ≡ false → (takes d w).shift ≡ w
unfolding takes
word_write d w e = elim (eqb d.family 1) as (λ b. (if b (ports_taken d w) (taken d w)).shift ≡ w) [ true ↦ rw e | false ↦ shift_word_lem.after_write d w e ]

word_read : (d : Device) (w : ℕ) → bit 15 w ≡ true → (takes d w).shift ≡ answer_word w (data_at d (w / 256 % 128))
unfolding takes
word_read d w e =
    elim (eqb d.family 1) as (λ b. (if b (ports_taken d w) (taken d w)).shift ≡ answer_word w (if b (port_data d.ports (register_at (w / 256 % 128))) (data_of d.registers (read_at (w / 256 % 128)))))
    [ true ↦ rw e | false ↦ shift_word_lem.after_read d w e ]

word_mark : (d : Device) (w : ℕ) → (takes d w).answer_mark ≡ if (bit 15 w) 1 0
unfolding takes
word_mark d w = elim (eqb d.family 1) as (λ b. (if b (ports_taken d w) (taken d w)).answer_mark ≡ if (bit 15 w) 1 0) [ true ↦ refl | false ↦ shift_word_lem.marked d w ]

-- ---- what is kept
pub takes_family : (d : Device) (w : ℕ) → (takes d w).family ≡ d.family
unfolding takes
takes_family d w = elim (eqb d.family 1) as (λ b. (if b (ports_taken d w) (taken d w)).family ≡ d.family) [ true ↦ refl | false ↦ taken_family d w ]

takes_fitted : (d : Device) (w : ℕ) → (takes d w).fitted ≡ d.fitted
unfolding takes
takes_fitted d w = elim (eqb d.family 1) as (λ b. (if b (ports_taken d w) (taken d w)).fitted ≡ d.fitted) [ true ↦ refl | false ↦ fitted_byte.after_word d w ]

takes_command : (d : Device) (w : ℕ) → (takes d w).command ≡ d.command
unfolding takes
takes_command d w = elim (eqb d.family 1) as (λ b. (if b (ports_taken d w) (taken d w)).command ≡ d.command) [ true ↦ refl | false ↦ (both_buses.address d).by_word w ]

word_kept : (d : Device) (w : ℕ) → Kept d (takes d w)
word_kept d w =
    record {
      family = takes_family d w;
      fitted = takes_fitted d w;
      ports = λ n. ap (λ (x : Device). x.ports) (old_takes d w (ne_eqb d.family 1 n)) ∙ taken_ports d w;
    }

pub pinned_family : (d : Device) (l : ℕ) → (pinned d l).family ≡ d.family
unfolding pinned
pinned_family d l = elim (eqb d.family 1) as (λ b. (if b (with_ports d (port_pinned d.ports l)) (with_pins d l)).family ≡ d.family) [ true ↦ refl | false ↦ refl ]

pub pinned_shift : (d : Device) (l : ℕ) → (pinned d l).shift ≡ d.shift
unfolding pinned
pinned_shift d l = elim (eqb d.family 1) as (λ b. (if b (with_ports d (port_pinned d.ports l)) (with_pins d l)).shift ≡ d.shift) [ true ↦ refl | false ↦ refl ]

pub pinned_mark : (d : Device) (l : ℕ) → (pinned d l).answer_mark ≡ d.answer_mark
unfolding pinned
pinned_mark d l = elim (eqb d.family 1) as (λ b. (if b (with_ports d (port_pinned d.ports l)) (with_pins d l)).answer_mark ≡ d.answer_mark) [ true ↦ refl | false ↦ refl ]

pins_kept : (d : Device) (l : ℕ) → Kept d (pinned d l)
unfolding pinned
pins_kept d l =
    record {
      family = pinned_family d l;
      fitted = elim (eqb d.family 1) as (λ b. (if b (with_ports d (port_pinned d.ports l)) (with_pins d l)).fitted ≡ d.fitted) [ true ↦ refl | false ↦ refl ];
      ports = λ n. rw (ne_eqb d.family 1 n);
    }

pub both_families : BothFamilies
unfolding commanded received sent takes pinned
both_families =
    record {
      sound = sound_steps;
      word = record { after_write = word_write; after_read = word_read; marked = word_mark };
      by_word = word_kept;
      by_scan = λ x a b c d. record { family = refl; fitted = refl; ports = λ n. refl };
      by_pins = pins_kept;
      by_clocks = λ d clocks. record { family = refl; fitted = refl; ports = λ n. refl };
      by_commanded = λ d v. record { family = refl; fitted = refl; ports = λ n. refl };
      by_received = λ d v. record { family = refl; fitted = refl; ports = λ n. refl };
      by_sent = λ d. record { family = refl; fitted = refl; ports = λ n. refl };
      registers_by_word = λ d w e. rw (eq-eqb d.family 1 e);
      registers_by_pins = λ d l e. rw (eq-eqb d.family 1 e);
      command_by_word = takes_command;
    }
