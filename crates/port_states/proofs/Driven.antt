-- LED currents, display test and shutdown.
-- Assumes nothing.
use Rattle.ground.proofs.Names.{ℕ, ◌+◌, ◌-◌, ◌/◌, ◌%◌, ◌<◌, ◌≤◌, arith, Bool, true, false, not, ◌&&◌, ◌≡◌, refl, ap, ◌∙◌, eqb, ne_eqb, get_or, replicate, mod-eq_of_lt, if, bit, odd, tabulate, tabulate_ext, get_d_tabulate}
use Rattle.port_registers.specs.PortRecord.{with_test}
use Rattle.port_registers.specs.declared.PortRegisters.{PortRegisters}
use Rattle.port_states.specs.PortStates.{pair_of, own_nibble, nibble_of, level_driven, state_of, port_number, states_of}
use Rattle.port_states.specs.PortOutputs.{table10, PortOutputs}
use Rattle.port_states.specs.declared.PortState.{PortState}
use Rattle.port_states.specs.declared.PortState.TheVariants.{Undriven, Low, High, Led}

-- a code is four bits
pub nibble_small : (x : PortRegisters) (p : ℕ) → nibble_of x p < 16
nibble_small x p = go (odd x.config.i) (odd p)
  where
    go : (i o : Bool) → if i (if o (get_or x.currents ((p - 4) / 2) 0 / 16 % 16) (get_or x.currents ((p - 4) / 2) 0 % 16)) (x.global % 16) < 16
    go true true = omega arith
    go true false = omega arith
    go false o = omega arith

-- what an LED current may be
abbrev Small : PortState → Type 0
Small Undriven = Unit
Small Low = Unit
Small High = Unit
Small (Led s) = (1 ≤ s) × (s ≤ 16)

small : (x : PortRegisters) (p : ℕ) → Small (state_of x p)
small x p = go (eqb (pair_of x p) 0) (odd x.test) (odd x.config.s) (bit (p - 4) x.stored) (eqb (pair_of x p) 1) (level_driven x p)
  where
    go : (led test s on output level : Bool)
        → Small (if (led && test) (Led 8) (if (not s) Undriven (if led (if on (Led (nibble_of x p + 1)) Undriven) (if output (if level High Low) Undriven))))
    go true true s on output level = (omega arith, omega arith)
    go true false false on output level = tt
    go true false true true output level = (omega arith, omega (arith, nibble_small x p))
    go true false true false output level = tt
    go false test false on output level = tt
    go false test true on true true = tt
    go false test true on true false = tt
    go false test true on false level = tt

current : (x : PortRegisters) (p s : ℕ) → state_of x p ≡ Led s → (1 ≤ s) × (s ≤ 16)
current x p s e = rw e at (small x p)

number_small : (s : PortState) → Small s → port_number s < 19
number_small Undriven h = omega arith
number_small Low h = omega arith
number_small High h = omega arith
number_small (Led s) h = omega arith

pub numbers : (x : PortRegisters) (p : ℕ) → port_number (state_of x p) < 19
numbers x p = number_small (state_of x p) (small x p)

lit : (x : PortRegisters) (p : ℕ) → odd x.test ≡ false → odd x.config.s ≡ true → pair_of x p ≡ 0 → bit (p - 4) x.stored ≡ true
    → state_of x p ≡ Led (nibble_of x p + 1)
lit x p t s e b = rw (e, t, s, b)

unlit : (x : PortRegisters) (p : ℕ) → odd x.test ≡ false → pair_of x p ≡ 0 → bit (p - 4) x.stored ≡ false → state_of x p ≡ Undriven
unlit x p t e b = rw (e, t, b) (go (odd x.config.s))
  where
    go : (s : Bool) → if (not s) Undriven Undriven ≡ Undriven
    go true = refl
    go false = refl

global_rules : (x : PortRegisters) (p : ℕ) → odd x.config.i ≡ false → x.global < 16 → nibble_of x p ≡ x.global
global_rules x p i h = rw i (mod-eq_of_lt h)

own_rules : (x : PortRegisters) (p : ℕ) → odd x.config.i ≡ true → nibble_of x p ≡ own_nibble x p
own_rules x p i = rw i

in_test : (x : PortRegisters) (p : ℕ) → odd x.test ≡ true → pair_of x p ≡ 0 → state_of x p ≡ Led 8
in_test x p t e = rw (e, t)

beside_test : (x : PortRegisters) (p t : ℕ) → eqb (pair_of x p) 0 ≡ false → state_of (with_test x t) p ≡ state_of x p
beside_test x p t e = rw e

in_shutdown : (x : PortRegisters) (p : ℕ) → odd x.test ≡ false → odd x.config.s ≡ false → state_of x p ≡ Undriven
in_shutdown x p t s = rw (t, s) (go (eqb (pair_of x p) 0))
  where
    go : (b : Bool) → if (b && false) (Led 8) Undriven ≡ Undriven
    go true = refl
    go false = refl

zeros : tabulate {A = ℕ} 28 (λ k. 0) ≡ replicate 28 0
unfolding tabulate
zeros = refl

all_in_shutdown : (x : PortRegisters) → odd x.test ≡ false → odd x.config.s ≡ false → states_of x ≡ replicate 28 0
unfolding states_of
all_in_shutdown x t s = tabulate_ext 28 _ (λ k. 0) (λ k h. ap port_number (in_shutdown x (k + 4) t s)) ∙ zeros

input : (x : PortRegisters) (p : ℕ) → 2 ≤ pair_of x p → state_of x p ≡ Undriven
input x p h = rw (ne_eqb (pair_of x p) 0 (λ e. omega arith), ne_eqb (pair_of x p) 1 (λ e. omega arith)) (go (odd x.config.s))
  where
    go : (s : Bool) → if (not s) Undriven Undriven ≡ Undriven
    go true = refl
    go false = refl

table_1 : (x : PortRegisters) → x.pairs ≡ replicate 7 0xE4 → tabulate 28 (λ k. pair_of x (k + 4)) ≡ tabulate 28 (λ k. (k + 4) % 4)
unfolding tabulate
table_1 x e = rw e

table_10 : (x : PortRegisters) → x.currents ≡ table10 → tabulate 28 (λ k. own_nibble x (k + 4)) ≡ tabulate 28 (λ k. (k + 4) % 16)
unfolding tabulate
table_10 x e = rw e

output : (x : PortRegisters) (p : ℕ) → odd x.config.s ≡ true → pair_of x p ≡ 1 → state_of x p ≡ if (level_driven x p) High Low
output x p s e = rw (s, e)

int : (x : PortRegisters) → odd x.config.m ≡ true → level_driven x 31 ≡ odd x.transition.interrupt
int x m = ap (λ (b : Bool). if b (odd x.transition.interrupt) (bit 27 x.stored)) m

own_bit : (x : PortRegisters) → odd x.config.m ≡ false → level_driven x 31 ≡ bit 27 x.stored
own_bit x m = ap (λ (b : Bool). if b (odd x.transition.interrupt) (bit 27 x.stored)) m

other_bits : (x : PortRegisters) (p : ℕ) → p < 31 → level_driven x p ≡ bit (p - 4) x.stored
other_bits x p h = rw (ne_eqb p 31 (λ e. omega arith))

places : (x : PortRegisters) (k : ℕ) → k < 28 → get_or (states_of x) k 0 ≡ port_number (state_of x (k + 4))
unfolding states_of
places x k h = get_d_tabulate 28 _ 0 k h

pub outputs : PortOutputs
outputs =
    record {
      current = current;
      lit = lit;
      unlit = unlit;
      global_rules = global_rules;
      own_rules = own_rules;
      in_test = in_test;
      beside_test = beside_test;
      in_shutdown = in_shutdown;
      all_in_shutdown = all_in_shutdown;
      table_1 = table_1;
      table_10 = table_10;
      output = output;
      int = int;
      own_bit = own_bit;
      other_bits = other_bits;
      input = input;
      places = places;
      numbers = numbers;
    }
