-- Dark cathodes and brightness beside the tables of 000.
-- Assumes nothing.
use Rattle.ground.proofs.Names.{ℕ, ◌<◌, ◌≤◌, arith, true, false, or-true, [], ◌∷◌, map, ◌≡◌, refl, ap, lt-ltb, le-ltb, odd}
use Rattle.device.specs.declared.Device.{Device}
use Rattle.brightness.specs.Dark.{test_on, dark}
use Rattle.brightness.specs.Brightness.{own_nibble, sixteenths, ruled_to, cathode_of, brightness_of, ruler_of, ruler_code, brightness_answer}
use Rattle.brightness.specs.declared.Ruler.TheVariants.{Nothing, Global, Own, Test}
use Rattle.brightness.specs.Tables.{sixteen_numbers, table26, table27, BrightnessTables}

to_the_limit : (x : Device) (d : ℕ) → test_on x ≡ false → odd x.registers.config.s ≡ true → d ≤ x.registers.controls.limit → dark x d ≡ false
to_the_limit x d t s h = rw (t, s) (le-ltb x.registers.controls.limit d h)

lit_in_test : (x : Device) (d : ℕ) → test_on x ≡ true → dark x d ≡ false
lit_in_test x d t = rw t

seven_in_test : (x : Device) (i : ℕ) → test_on x ≡ true → brightness_of x i ≡ 7
seven_in_test x i t = rw t

duty_cycles : map sixteenths sixteen_numbers ≡ table26
duty_cycles = refl

own_nibbles : map (own_nibble table27) sixteen_numbers ≡ sixteen_numbers
own_nibbles = refl

dark_digit : (x : Device) (i : ℕ) → dark x (cathode_of i) ≡ true → brightness_of x i ≡ 0
dark_digit x i d = rw d

cathodes : map cathode_of sixteen_numbers ≡ 0 ∷ 1 ∷ 2 ∷ 3 ∷ 4 ∷ 5 ∷ 6 ∷ 7 ∷ 0 ∷ 1 ∷ 2 ∷ 3 ∷ 4 ∷ 5 ∷ 6 ∷ 7 ∷ []
cathodes = refl

test_rules : (x : Device) → test_on x ≡ true → ruler_of x ≡ Test
test_rules x t = rw t

own_rules : (x : Device) → test_on x ≡ false → odd x.registers.config.i ≡ true → ruler_of x ≡ Own
own_rules x t i = rw (t, i)

global_rules : (x : Device) → test_on x ≡ false → odd x.registers.config.i ≡ false → ruler_of x ≡ Global
global_rules x t i = rw (t, i)

ruler_numbers : map ruler_code (Nothing ∷ Global ∷ Own ∷ Test ∷ []) ≡ 0 ∷ 1 ∷ 2 ∷ 3 ∷ []
ruler_numbers = refl

test_bit : (x : Device) → x.registers.controls.test ≡ 1 → test_on x ≡ true
test_bit x e = ap odd e

no_test_bit : (x : Device) → x.registers.controls.test ≡ 0 → test_on x ≡ false
no_test_bit x e = ap odd e

own_nibble_lem : (x : Device) (i : ℕ) → test_on x ≡ false → odd x.registers.config.i ≡ true → ruled_to x i ≡ sixteenths (own_nibble x.registers.intensities i)
own_nibble_lem x i t e = rw (t, e)

global_nibble : (x : Device) (i : ℕ) → test_on x ≡ false → odd x.registers.config.i ≡ false → ruled_to x i ≡ sixteenths x.registers.controls.global
global_nibble x i t e = rw (t, e)

refused : (x : Device) (i : ℕ) → 15 < i → brightness_answer x i ≡ record { number = 6; sixteenths = 0; ruler = 0 }
refused x i h = rw (le-ltb i 16 (omega arith))

pub tabled : BrightnessTables
tabled =
    record {
      to_the_limit = to_the_limit;
      above_the_limit = λ x d t h. rw (t, lt-ltb x.registers.controls.limit d h, or-true);
      in_shutdown = λ x d t s. rw (t, s);
      lit_in_test = lit_in_test;
      seven_in_test = seven_in_test;
      duty_cycles = duty_cycles;
      own_nibbles = own_nibbles;
      dark_digit = dark_digit;
      lit_digit = λ x i d. rw d;
      cathodes = cathodes;
      test_rules = test_rules;
      own_rules = own_rules;
      global_rules = global_rules;
      ruler_numbers = ruler_numbers;
      test_bit = test_bit;
      no_test_bit = no_test_bit;
      own_nibble = own_nibble_lem;
      global_nibble = global_nibble;
      by_nibbles = λ x y i t c g n. simp (t, c, g, n);
      refused = refused;
      answered = λ x i h. rw (lt-ltb i 16 (omega arith));
    }
