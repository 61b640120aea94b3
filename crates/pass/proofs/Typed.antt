-- What the type of a record says of its bytes.
-- Assumes nothing.
use Rattle.ground.proofs.Names.{List}
use mir.Val.{Val}
use denote.Laws.{Is}
use denote.Struct.Declared as Declared
use denote.Struct.Laws.{owed}
use Rattle.controls.specs.contracts.Config as Config
use Rattle.controls.proofs.Config.TheLaws as Config'
use Rattle.controls.specs.contracts.Controls as Controls
use Rattle.controls.proofs.Controls.TheLaws as Controls'
use Rattle.registers.specs.contracts.Registers as Registers
use Rattle.registers.proofs.Registers.TheLaws as Registers'
use Rattle.port_registers.specs.contracts.PortConfig as PortConfig
use Rattle.port_registers.proofs.PortConfig.TheLaws as PortConfig'
use Rattle.port_registers.specs.contracts.Transition as Transition
use Rattle.port_registers.proofs.Transition.TheLaws as Transition'
use Rattle.port_registers.specs.contracts.PortRegisters as Ports
use Rattle.port_registers.proofs.PortRegisters.TheLaws as Ports'
use Rattle.device.specs.declared.Device.{Device}
use Rattle.device.specs.contracts.Device as Driver
use Rattle.device.proofs.Device.TheLaws as Driver'
use Rattle.pass.specs.Widths.{Bytes}

pub bytes_of : (d : Device) (vs : List Val) → Is (Declared.row Driver.the_type) d vs → Bytes d
bytes_of d vs is =
    let x = owed Driver.the_type Driver'.the_laws d vs is in
    let r = owed Registers.the_type Registers'.the_laws d.registers _ x.0 in
    let c = owed Controls.the_type Controls'.the_laws d.registers.controls _ r.0 in
    let f = owed Config.the_type Config'.the_laws d.registers.config _ r.1.0 in
    let p = owed Ports.the_type Ports'.the_laws d.ports _ x.1.1.1.1.1.1.0 in
    let g = owed PortConfig.the_type PortConfig'.the_laws d.ports.config _ p.1.1.1.1.1.1.0 in
    let t = owed Transition.the_type Transition'.the_laws d.ports.transition _ p.1.1.1.1.1.1.1.0 in
    record {
      global = c.1.0.1;
      limit = c.1.1.0.1;
      gpio = c.1.1.1.0.1;
      ports = c.1.1.1.1.0.1;
      test = c.1.1.1.1.1.0.1;
      types = c.1.1.1.1.1.1.0.1;
      i = f.0.1;
      e = f.1.0.1;
      b = f.1.1.0.1;
      s = f.1.1.1.0.1;
      fitted = x.1.1.0.1;
      mark = x.1.1.1.0.1;
      command = x.1.1.1.1.0.1;
      family = x.1.1.1.1.1.0.1;
      port_global = p.1.1.1.1.0.1;
      port_test = p.1.1.1.1.1.0.1;
      port_m = g.0.1;
      port_i = g.1.0.1;
      port_s = g.1.1.0.1;
      mask = t.0.1;
      snapshot = t.1.0.1;
      detecting = t.1.1.0.1;
    }
