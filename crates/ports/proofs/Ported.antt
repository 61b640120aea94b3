-- What GPIO data reads, port by port.
-- Assumes nothing.
use mathlib.Core.Bool.{and-true, and-false, or-false}
use Rattle.ground.proofs.Names.{ℕ, ◌*◌, ◌/◌, ◌%◌, ◌<◌, arith, Bool, true, false, not, ◌&&◌, ◌||◌, Bool·beq, ◌≡◌, refl, bit_and, bit_or, and_le_l, or_lt, eqb, ltb, lt-ltb, ltb-true, if, bit, odd, all, all_at, same, if_small, and_bit, or_bit, not_bit, low_bit}
use Rattle.keys.specs.Keys.{groups_of}
use Rattle.ports.specs.Ports.{free_ports, gpio_bits, irq_level}
use Rattle.ports.specs.PortByPort.{port_level, PortByPort}

-- port p is P4 as the interrupt
abbrev is_irq : ℕ → ℕ → Bool
is_irq g p = eqb p 4 && not (eqb g 0)

-- the ports that stay GPIO, and the interrupt's bit q, at every number of groups and every port
free_test : ℕ → ℕ → Bool
free_test g p = Bool·beq (bit p (free_ports g)) (not (ltb p g) && not (is_irq g p))

irq_test : ℕ → ℕ → ℕ → Bool
irq_test q g p = Bool·beq (bit p (if (eqb g 0) 0 (q * 16))) (is_irq g p && eqb q 1)

free_bit : (g p : ℕ) → g < 5 → p < 5 → bit p (free_ports g) ≡ (not (ltb p g) && not (is_irq g p))
unfolding free_test
free_bit g p hg hp =
    same _ _ (all_at (free_test g) 5 (all_at (λ j. all (free_test j) 5) 5 refl g hg) p hp)

irq_bit : (g interrupt p : ℕ) → g < 5 → p < 5 → bit p (irq_level g interrupt) ≡ (is_irq g p && odd interrupt)
unfolding irq_test
irq_bit g interrupt p hg hp =
    let q = interrupt % 2 in
    let t = all_at (λ q. all (λ j. all (irq_test q j) 5) 5) 2 refl q (omega arith) in
    same _ _ (all_at (irq_test q g) 5 (all_at (λ j. all (irq_test q j) 5) 5 t g hg) p hp)

-- the interrupt, or a port that no group takes: an input gives its pin, an output its stored bit
pick : (irq group input pin stored level : Bool)
    → ((not group && not irq) && (pin && input || stored && not input) || irq && level) ≡ if irq level (if group false (if input pin stored))
pick true group input pin stored level = simp and-false
pick false true input pin stored level = refl
pick false false true pin stored level = simp (and-true, and-false, or-false)
pick false false false pin stored level = simp (and-true, and-false, or-false)

few_groups : (ports : ℕ) → groups_of ports < 5
few_groups ports = go (ltb (ports / 32) 4) refl where
  go : (b : Bool) → ltb (ports / 32) 4 ≡ b → if b (ports / 32) 4 < 5
  go true e = omega (arith, ltb-true (ports / 32) 4 e)
  go false e = omega arith

module _ (g ports gpio pins interrupt : ℕ) (h : g < 5) where
  level_at : (p : ℕ) → p < 5
      → bit p (bit_or (bit_and (free_ports g) (gpio_bits ports gpio pins)) (irq_level g interrupt)) ≡ port_level g ports gpio pins interrupt p
  level_at p l =
      simp (or_bit, and_bit, not_bit 5 p (ports % 32) l (omega arith), low_bit 5, free_bit g, irq_bit g)
      (pick (is_irq g p) (ltb p g) (bit p ports) (bit p pins) (bit p gpio) (odd interrupt))

  unused_at : bit_or (bit_and (free_ports g) (gpio_bits ports gpio pins)) (irq_level g interrupt) < 32
  unused_at =
      let free : free_ports g < 32 = ltb-true _ _ (all_at (λ j. ltb (free_ports j) 32) 5 refl g h) in
      let irq : ltb (irq_level g interrupt) 32 ≡ true = if_small (eqb g 0) 0 _ 32 refl (lt-ltb (interrupt % 2 * 16) 32 (omega arith)) in
      or_lt 5 (bit_and (free_ports g) (gpio_bits ports gpio pins)) _ (omega (arith, and_le_l (free_ports g) (gpio_bits ports gpio pins))) (ltb-true _ _ irq)

pub port_by_port : PortByPort
port_by_port =
    record {
      level = λ ports gpio pins interrupt. level_at (groups_of ports) ports gpio pins interrupt (few_groups ports);
      unused = λ ports gpio pins interrupt. unused_at (groups_of ports) ports gpio pins interrupt (few_groups ports);
    }
