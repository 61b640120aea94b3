-- A word as it is decoded, and what it does to the planes.
-- Assumes nothing.
use Rattle.ground.proofs.Names.{ℕ, ◌/◌, ◌%◌, ◌^◌, ◌<◌, ◌≤◌, arith, ℕ_discrete, Bool, true, false, ◌||◌, ◌≡◌, ◌≢◌, refl, eqb, if, bit, ne_eqb, eq-eqb, le-ltb, or-true, mod-lt, true≢false, sym, ap, ◌∙◌, all_at}
use Rattle.std.specs.Prelude.{Option, Some, None}
use Rattle.words.specs.Addresses.{word_of, written_at, read_at, high_register}
use Rattle.words.specs.declared.Plane.{Plane}
use Rattle.words.specs.declared.Register.{Register}
use Rattle.words.specs.declared.Register.TheVariants.{NoOp, Control, Configuration, KeyMask, KeyDebounced, KeyPressed, Intensity, Digit, BothPlanes, Unlisted}
use Rattle.words.specs.declared.Word.{Word}
use Rattle.words.specs.declared.Word.TheVariants.{Write, Read}
use Rattle.digits.specs.Digits.{digit_written, both_written, cleared}
use Rattle.digits.specs.declared.Planes.{Planes}
use Rattle.controls.specs.declared.Config.{Config}
use Rattle.plans.specs.Words.{keeps, allowed_by}
use Rattle.plans.specs.Act.{acted, act_of, stay, clear}
use Rattle.plans.proofs.Act.{config_word}

-- the planes after a word, where a redraw may give it
abbrev pub by_word : Config → Planes → Word Register → Option Planes
by_word c p (Read r) = None
by_word c p (Write NoOp v) = if (eqb v 0) (Some p) None
by_word c p (Write (Control k) v) = None
by_word c p (Write Configuration v) = if (keeps c v) (Some (if (bit 5 v) cleared p)) None
by_word c p (Write (KeyMask g) v) = None
by_word c p (Write (KeyDebounced g) v) = None
by_word c p (Write (KeyPressed g) v) = None
by_word c p (Write (Intensity j) v) = None
by_word c p (Write (Digit plane k) v) = Some (digit_written p plane k v)
by_word c p (Write (BothPlanes k) v) = Some (both_written p k v)
by_word c p (Write Unlisted v) = None

-- a register that no allowed word writes
abbrev other : Register → Bool
other NoOp = false
other Configuration = false
other (Digit plane k) = false
other (BothPlanes k) = false
other r = true

pub by_other : (c : Config) (p : Planes) (r : Register) (v : ℕ) → (r ≡ NoOp → ⊥) → (r ≡ Configuration → ⊥) → ((plane : Plane) (k : ℕ) → r ≡ Digit plane k → ⊥) → ((k : ℕ) → r ≡ BothPlanes k → ⊥)
    → by_word c p (Write r v) ≡ None
by_other c p NoOp v a b d e = absurd (a refl)
by_other c p (Control k) v a b d e = refl
by_other c p Configuration v a b d e = absurd (b refl)
by_other c p (KeyMask g) v a b d e = refl
by_other c p (KeyDebounced g) v a b d e = refl
by_other c p (KeyPressed g) v a b d e = refl
by_other c p (Intensity j) v a b d e = refl
by_other c p (Digit plane k) v a b d e = absurd (d plane k refl)
by_other c p (BothPlanes k) v a b d e = absurd (e k refl)
by_other c p Unlisted v a b d e = refl

other_is : (r : Register) → other r ≡ true → (c : Config) (p : Planes) (v : ℕ) → by_word c p (Write r v) ≡ None
other_is r o c p v = by_other c p r v (λ e. true≢false (sym o ∙ ap other e)) (λ e. true≢false (sym o ∙ ap other e)) (λ a k e. true≢false (sym o ∙ ap other e)) (λ k e. true≢false (sym o ∙ ap other e))

abbrev known : ℕ → Bool
known a = eqb a 0 || eqb a 4 || eqb (a / 16) 2 || eqb (a / 16) 4 || eqb (a / 16) 6

others : (a : ℕ) → a < 128 → (known a || other (written_at a)) ≡ true
others a h = all_at (λ (a : ℕ). known a || other (written_at a)) 128 refl a h

module _ (c : Config) (p : Planes) (w : ℕ) where
  abbrev Decides : Type 0
  Decides = by_word c p (word_of w) ≡ if (allowed_by c w) (Some (acted p (act_of w))) None

  refused : w ≢ 0 → w / 4096 ≢ 2 → w / 4096 ≢ 4 → w / 4096 ≢ 6 → w / 256 ≢ 4 → allowed_by c w ≡ false
  refused a b d e f = rw (ne_eqb w 0 a, ne_eqb (w / 4096) 2 b, ne_eqb (w / 4096) 4 d, ne_eqb (w / 4096) 6 e, ne_eqb (w / 256) 4 f)

  -- a digit write, by the word's first hexadecimal digit
  digit : (r : ℕ) → w / 4096 ≡ r → 2 ≤ r → r < 8 → word_of w ≡ Write (high_register r (w / 256 % 16)) (w % 256)
  digit r e low high =
      let a : w / 2 ^ 15 % 2 ≡ 0 = omega arith in
      let b : w / 256 % 128 / 16 ≡ r = omega arith in
      let d : w / 256 % 128 % 16 ≡ w / 256 % 16 = omega arith in
      rw (a, ne_eqb (w / 256 % 128 / 8) 1 (λ z. omega arith), le-ltb (w / 256 % 128) 8 (omega arith), b, d)

  no_op : w / 256 ≡ 0 → Decides
  no_op e =
      let a : w / 2 ^ 15 % 2 ≡ 0 = omega arith in
      let b : w / 256 % 128 ≡ 0 = omega arith in
      let d : w / 4096 ≡ 0 = omega arith in
      let v : w % 256 ≡ w = omega arith in
      rw (a, b, d, e, v) (go (eqb w 0))
    where
      go : (b : Bool) → if b (Some p) None ≡ if (b || false || false) (Some p) None
      go true = refl
      go false = refl

  config : w / 256 ≡ 4 → Decides
  config e =
      let a : w / 4096 ≡ 0 = omega arith in
      rw (config_word w e, ne_eqb w 0 (λ z. omega arith), a, e) (go (keeps c (w % 256)) (bit 5 (w % 256)))
    where
      go : (b d : Bool) → if b (Some (if d cleared p)) None ≡ if b (Some (acted p (if d clear stay))) None
      go true true = refl
      go true false = refl
      go false d = refl

  -- an address of its own
  rest : (h : w < 65536) → w / 256 ≢ 0 → w / 4096 ≢ 2 → w / 4096 ≢ 4 → w / 4096 ≢ 6 → w / 256 ≢ 4 → Decides
  rest h a b d e f = rw (refused (λ z. a (omega arith)) b d e f) (go (bit 15 w) refl)
    where
      address : ℕ
      address = w / 256 % 128

      unknown : bit 15 w ≡ false → known address ≡ false
      unknown z =
          let n : w / 2 ^ 15 % 2 ≢ 1 = λ (g : w / 2 ^ 15 % 2 ≡ 1). true≢false (sym (eq-eqb _ _ g) ∙ z) in
          rw (
            ne_eqb address 0 (λ q. a (omega arith)),
            ne_eqb address 4 (λ q. f (omega arith)),
            ne_eqb (address / 16) 2 (λ q. b (omega arith)),
            ne_eqb (address / 16) 4 (λ q. d (omega arith)),
            ne_eqb (address / 16) 6 (λ q. e (omega arith)),
          )

      go : (b : Bool) → bit 15 w ≡ b → by_word c p (if b (Read (read_at address)) (Write (written_at address) (w % 256))) ≡ None
      go true z = refl
      go false z = other_is (written_at address) (rw (unknown z) at (others address (mod-lt _ (omega arith)))) c p (w % 256)

  pub decides : w < 65536 → Decides
  decides h = go (ℕ_discrete (w / 4096) 2) (ℕ_discrete (w / 4096) 4) (ℕ_discrete (w / 4096) 6) (ℕ_discrete (w / 256) 0) (ℕ_discrete (w / 256) 4)
    where
      go : Dec (w / 4096 ≡ 2) → Dec (w / 4096 ≡ 4) → Dec (w / 4096 ≡ 6) → Dec (w / 256 ≡ 0) → Dec (w / 256 ≡ 4) → Decides
      go (yes e) b d f g = rw (digit 2 e (omega arith) (omega arith), e, or-true)
      go (no a) (yes e) d f g = rw (digit 4 e (omega arith) (omega arith), e, or-true)
      go (no a) (no b) (yes e) f g = rw (digit 6 e (omega arith) (omega arith), e, or-true)
      go (no a) (no b) (no d) (yes e) g = no_op e
      go (no a) (no b) (no d) (no f) (yes e) = config e
      go (no a) (no b) (no d) (no f) (no g) = rest h f a b d g
