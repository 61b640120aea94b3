-- A word, taken by a driver of the old family, leaves what `low_taken` says; taken by a MAX6957, what `ports_replaced` does.
-- Assumes nothing.
use Rattle.ground.proofs.Names.{ℕ, ◌/◌, ◌%◌, ◌<◌, dec_lt, arith, true, false, ◌≡◌, ap, ap₂, ◌∙◌, lt-ltb, le-ltb, eq-eqb, ne_eqb, if, bit}
use Rattle.device.specs.Record.{with_mark}
use Rattle.device.specs.Taken.{taken}
use Rattle.port_registers.specs.PortTaken.{taken as port_taken, shift_word}
use Rattle.port_registers.specs.declared.PortRegisters.{PortRegisters}
use Rattle.port_high_words.specs.PortHighWords.{is_high, new_ports, new_shift as new_port_shift}
use Rattle.port_high_words.proofs.High.{high_ports}
use Rattle.device.specs.Families.{takes}
use Rattle.device.proofs.Families.{old_takes}
use Rattle.device.proofs.Shift.{taken_parts}
use Rattle.device.specs.Record.{with_registers, with_shift}
use Rattle.device.specs.declared.Device.{Device}
use Rattle.high_words.specs.HighWords.{new_mark}
use Rattle.high_words.specs.LowWords.{is_ports, low_registers, low_shift, low_taken, ports_replaced}

pub mark_is : (w : ℕ) → w < 65536 → if (bit 15 w) 1 0 ≡ new_mark w
mark_is w h = go (dec_lt (w / 4096) 8)
  where
    go : Dec (w / 4096 < 8) → if (bit 15 w) 1 0 ≡ new_mark w
    go (yes l) = rw (lt-ltb (w / 4096) 8 l, ne_eqb (w / 32768 % 2) 1 (λ e. omega (arith, e, l)))
    go (no n) = rw (le-ltb (w / 4096) 8 (omega (arith, n)), eq-eqb (w / 32768 % 2) 1 (omega (arith, n, h)))

low_taken_lem : (d : Device) (w : ℕ) → w < 65536 → taken d w ≡ low_taken d w
unfolding low_registers low_shift
low_taken_lem d w h = taken_parts d w ∙ ap (with_mark (with_shift (with_registers d (low_registers d.registers w)) (low_shift d.registers w))) (mark_is w h)

-- by a driver that is no MAX6957
pub low_place : (w : ℕ) → w < 65536 → (d : Device) → is_ports d.family ≡ false → takes d w ≡ low_taken d w
low_place w h d e = old_takes d w e ∙ low_taken_lem d w h

-- and by one that is: all its registers are replaced, and where the address is 0x20 or above, by `new_ports`
pub ports_low : (w : ℕ) → w < 65536 → (d : Device) → is_ports d.family ≡ true → takes d w ≡ ports_replaced d (port_taken d.ports w) (shift_word d.ports w) (new_mark w)
unfolding takes
ports_low w h d e = rw e (ap (ports_replaced d (port_taken d.ports w) (shift_word d.ports w)) (mark_is w h))

pub ports_high : (w : ℕ) → w < 65536 → (d : Device) → is_ports d.family ≡ true → is_high w ≡ true → takes d w ≡ ports_replaced d (new_ports w d.ports) (new_port_shift w d.ports) (new_mark w)
ports_high w h d e i =
    ports_low w h d e ∙ ap₂ (λ (x : PortRegisters) (s : ℕ). ports_replaced d x s (new_mark w)) (high_ports.registers d.ports w i) (high_ports.shift d.ports w i)
