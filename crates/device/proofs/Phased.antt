-- The plane shown is that of the phase.
-- Assumes nothing.
use Rattle.ground.proofs.Names.{ℕ, ◌+◌, ◌/◌, ◌%◌, arith, true, false, ◌≡◌, sym, ◌∙◌, ap, odd}
use Rattle.words.specs.declared.Plane.TheVariants.{P0}
use Rattle.words.specs.declared.Register.TheVariants.{Configuration}
use Rattle.blink.specs.Blink.{shown_at}
use Rattle.controls.specs.Config.{phase_bit}
use Rattle.registers.specs.Registers.{data_of}
use Rattle.registers.proofs.Back.{read_back}
use Rattle.device.specs.Record.{with_blink}
use Rattle.device.specs.Steps.{clocked, shown_plane}
use Rattle.device.specs.PlaneShown.{PlaneShown}
use Rattle.device.specs.declared.Device.{Device}

off : (d : Device) → odd d.registers.config.e ≡ false → shown_plane d ≡ P0
off d e = ap (shown_at d.registers.blink (odd d.registers.config.b)) e

on : (d : Device) → odd d.registers.config.e ≡ true → phase_bit (shown_plane d) ≡ data_of d.registers Configuration / 128
on d e = ap (λ t. phase_bit (shown_at d.registers.blink (odd d.registers.config.b) t)) e ∙ sym (read_back.phase d.registers)

counted : (d : Device) (m n : ℕ) → clocked (clocked d m) n ≡ clocked d (m + n)
counted d m n =
    let e : ((d.registers.blink + m) % 4000000 + n) % 4000000 ≡ (d.registers.blink + (m + n)) % 4000000 = omega arith in
    ap (with_blink d) e

pub plane_shown_lem : PlaneShown
plane_shown_lem = record { off = off; on = on; counted = counted }
