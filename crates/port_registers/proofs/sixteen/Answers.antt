-- `port_registers::sixteen` meets its contract. Assumes nothing.
use Rattle.ground.proofs.Names.{◌∙◌, ◌+◌, ◌*◌, ◌≡◌, ap, rules, arith}
use Rattle.port_registers.specs.PackedPairs.{drawn}
use Rattle.port_registers.proofs.DrawnLaws.{drawn_small, drawn_joined}
use Rattle.port_registers.proofs.sixteen.Goals as goal

pub returns : goal.returns
returns c =
    let a = c.args in
    let e : c.from_le_bytes.result ≡ a.a + a.b * 0x100 + a.c * 0x10000 + a.d * 0x1000000 = search rules in (
      c.drawn.ensures ∙ ap drawn e ∙ drawn_joined a.a a.b a.c a.d (search rules) (search rules) (search rules) (search rules),
      rw c.drawn.ensures (drawn_small _),
    )
