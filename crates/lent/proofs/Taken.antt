-- A driver takes its word in place: the writes into its record, one after another, leave what `takes` says.
--     turn, three, four          writes into the record at one place of a chain
--     high                       a word with an address of 0x20 or above, of the old family
--     ports_far, ports_near      a word of a MAX6957, with an address of 0x20 or above, and below
--     low                        any other
--     taken_turn                 one record more
-- Assumes nothing.
use Rattle.ground.proofs.Names.{ℕ, ◌+◌, ◌<◌, true, false, List, ◌≡◌, sym, ap, ◌∙◌, length, get_or, set, set-set, get_or-set_same}
use Rattle.registers.specs.Record.{with_planes}
use Rattle.registers.specs.declared.Registers.{Registers}
use Rattle.port_registers.specs.PortRecord.{with_stored, with_transition}
use Rattle.port_registers.specs.PortTaken.{taken as ports_taken, shift_word}
use Rattle.port_registers.specs.declared.PortRegisters.{PortRegisters}
use Rattle.port_registers.specs.declared.Transition.{Transition}
use Rattle.port_high_words.specs.PortHighWords.{new_stored, new_transition, new_shift as new_port_shift}
use Rattle.device.specs.PowerUp.{power_up}
use Rattle.device.specs.Record.{with_registers, with_shift, with_mark, with_ports}
use Rattle.device.specs.Families.{takes}
use Rattle.device.specs.declared.Device.{Device}
use Rattle.high_words.specs.HighWords.{is_high, in_place, digit_of, new_p0, new_p1, new_shift, new_mark}
use Rattle.high_words.specs.LowWords.{is_ports, low_registers, low_shift}
use Rattle.high_words.proofs.HighLaws.{in_place_lem}
use Rattle.high_words.proofs.LowLaws.{low_place, ports_low, ports_high}
use Rattle.pass.specs.OneByOne.{taken_to}
use Rattle.pass.proofs.StepLaws.{taken_more}
use Rattle.lent.proofs.Passed.{default}

-- the record at a place of a chain, rewritten
abbrev pub turn : ℕ → Device → (Device → Device) → List Device → List Device
turn i d f xs = set xs i (f (get_or xs i d))

-- a digit's byte of each plane replaced
abbrev pub with_p0 : ℕ → ℕ → Device → Device
with_p0 at v x = with_registers x (with_planes x.registers (record { p0 = set x.registers.planes.p0 at v; p1 = x.registers.planes.p1 }))

abbrev pub with_p1 : ℕ → ℕ → Device → Device
with_p1 at v x = with_registers x (with_planes x.registers (record { p0 = x.registers.planes.p0; p1 = set x.registers.planes.p1 at v }))

module _ (xs : List Device) (i : ℕ) (d : Device) (lt : i < length xs) where
  abbrev x : Device
  x = get_or xs i d

  two : (f : Device → Device) (a : Device) → turn i d f (set xs i a) ≡ set xs i (f a)
  two f a = ap (λ (y : Device). set (set xs i a) i (f y)) (get_or-set_same xs i a d lt) ∙ set-set xs i a (f a)

  three : (f g h : Device → Device) → turn i d h (turn i d g (turn i d f xs)) ≡ set xs i (h (g (f x)))
  three f g h = ap (turn i d h) (two g (f x)) ∙ two h (g (f x))

  four : (f g h k : Device → Device) → turn i d k (turn i d h (turn i d g (turn i d f xs))) ≡ set xs i (k (h (g (f x))))
  four f g h k = ap (turn i d k) (three f g h) ∙ two k (h (g (f x)))

  module _ (w : ℕ) (fits : w < 65536) where
    pub high : in_place w x.family ≡ true → (at p q s m : ℕ) → at ≡ digit_of w → p ≡ new_p0 w (get_or x.registers.planes.p0 at 0) → q ≡ new_p1 w (get_or x.registers.planes.p1 at 0)
        → s ≡ new_shift w (get_or x.registers.planes.p0 at 0) (get_or x.registers.planes.p1 at 0) → m ≡ new_mark w
        → turn i d (λ y. with_mark y m) (turn i d (λ y. with_shift y s) (turn i d (with_p1 at q) (turn i d (with_p0 at p) xs))) ≡ set xs i (takes x w)
    high h at p q s m e0 e1 e2 e3 e4 =
        four (with_p0 at p) (with_p1 at q) (λ y. with_shift y s) (λ y. with_mark y m) ∙ ap (set xs i) (rw (e1, e2, e3, e4, e0) (sym (in_place_lem w fits x h)))

    pub ports_far : is_ports x.family ≡ true → is_high w ≡ true → (s v m : ℕ) (t : Transition) → s ≡ new_port_shift w x.ports → v ≡ new_stored w x.ports.stored → t ≡ new_transition w x.ports → m ≡ new_mark w
        → turn i d (λ y. with_mark y m) (turn i d (λ y. with_ports y (with_transition y.ports t)) (turn i d (λ y. with_ports y (with_stored y.ports v)) (turn i d (λ y. with_shift y s) xs))) ≡ set xs i (takes x w)
    ports_far h g s v m t e1 e2 e3 e4 =
        four (λ y. with_shift y s) (λ y. with_ports y (with_stored y.ports v)) (λ y. with_ports y (with_transition y.ports t)) (λ y. with_mark y m)
        ∙ ap (set xs i) (rw (e1, e2, e3, e4) (sym (ports_high w fits x h g)))

    pub ports_near : is_ports x.family ≡ true → (s m : ℕ) (p : PortRegisters) → s ≡ shift_word x.ports w → p ≡ ports_taken x.ports w → m ≡ new_mark w
        → turn i d (λ y. with_mark y m) (turn i d (λ y. with_ports y p) (turn i d (λ y. with_shift y s) xs)) ≡ set xs i (takes x w)
    ports_near h s m p e1 e2 e3 =
        three (λ y. with_shift y s) (λ y. with_ports y p) (λ y. with_mark y m) ∙ ap (set xs i) (rw (e1, e2, e3) (sym (ports_low w fits x h)))

    pub low : is_ports x.family ≡ false → (s m : ℕ) (r : Registers) → s ≡ low_shift x.registers w → r ≡ low_registers x.registers w → m ≡ new_mark w
        → turn i d (λ y. with_mark y m) (turn i d (λ y. with_registers y r) (turn i d (λ y. with_shift y s) xs)) ≡ set xs i (takes x w)
    low h s m r e1 e2 e3 =
        three (λ y. with_shift y s) (λ y. with_registers y r) (λ y. with_mark y m) ∙ ap (set xs i) (rw (e1, e2, e3) (sym (low_place w fits x h)))

-- the records at the next turn
pub taken_turn : (xs : List Device) (ws : List ℕ) (i : ℕ) (d : Device) {ys : List Device} → ys ≡ taken_to xs ws i → i < length xs → i < length ys
    → set ys i (takes (get_or ys i d) (get_or ws i 0)) ≡ taken_to xs ws (i + 1)
taken_turn xs ws i d {ys} e h l =
    ap (λ (x : Device). set ys i (takes x (get_or ws i 0))) (default d power_up ys i l)
    ∙ ap (λ (zs : List Device). set zs i (takes (get_or zs i power_up) (get_or ws i 0))) e
    ∙ taken_more xs ws i h
