-- What a record's type says of its planes: sixteen digits in each.
-- Assumes nothing.
use Rattle.ground.proofs.Names.{List}
use mir.Val.{Val}
use denote.Laws.{Is}
use denote.Struct.Declared as Declared
use denote.Struct.Laws.{owed}
use Rattle.digits.specs.contracts.Planes as Planes
use Rattle.digits.proofs.Planes.TheLaws as Planes'
use Rattle.registers.specs.contracts.Registers as Registers
use Rattle.registers.proofs.Registers.TheLaws as Registers'
use Rattle.device.specs.declared.Device.{Device}
use Rattle.device.specs.contracts.Device as Driver
use Rattle.device.proofs.Device.TheLaws as Driver'
use Rattle.plans.specs.Words.{Sized}

pub sized_planes : (d : Device) (vs : List Val) → Is (Declared.row Driver.the_type) d vs → Sized d.registers.planes
sized_planes d vs is =
    let r = owed Registers.the_type Registers'.the_laws d.registers _ (owed Driver.the_type Driver'.the_laws d vs is).0 in
    let x = owed Planes.the_type Planes'.the_laws d.registers.planes _ r.1.1.1.1.0 in
    record { first = x.0.1.0.1; second = x.1.0.1.0.1 }
