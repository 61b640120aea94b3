-- What the records passed tell: whether each is sound by its own family, and which families there are.
--     seen_start, seen_more        the records one by one
--     seen_fit_lem, seen-below         all of them are sound, and of a family below 2 ^ k
-- Assumes nothing.
use Rattle.ground.proofs.Names.{ℕ, ◌+◌, ◌/◌, ◌%◌, ◌^◌, ◌<◌, add-one, arith, Bool, true, false, ◌&&◌, and_assoc, List, [], ◌∷◌, ◌++◌, ◌≡◌, refl, sym, ap, ◌∙◌, bit_or, eqb, ltb, length, get_or, take, take-suc, eqb-true, if}
use mathlib.Core.Bool.{and-true}
use Rattle.device.specs.Families.{families, port_sound, sound_record}
use Rattle.device.specs.PowerUp.{power_up}
use Rattle.device.specs.declared.Device.{Device}
use Rattle.calls.specs.CallRefusals.{families_below, all_sound}
use Rattle.pass.specs.Widths.{Bytes, AllBytes}
use Rattle.pass.specs.Seen.{no_seen, port_bytes, ports_with, other_with, seen_with, seen_of, ports_fit, seen_fit}
use Rattle.pass.specs.declared.Seen.{Seen}
use Rattle.pass.proofs.WidthLaws.{Two, cross, or_small, or_byte}

-- ---- the records one by one
pub seen_start : (xs : List Device) → no_seen ≡ seen_of no_seen (take 0 xs)
unfolding seen_of
seen_start xs = refl

seen_added : (s : Seen) (ds : List Device) (d : Device) → seen_of s (ds ++ d ∷ []) ≡ seen_with (seen_of s ds) d
unfolding seen_of
seen_added s [] d = refl
seen_added s (x ∷ ds) d = seen_added (seen_with s x) ds d

pub seen_more : (xs : List Device) (k : ℕ) → k < length xs → seen_with (seen_of no_seen (take k xs)) (get_or xs k power_up) ≡ seen_of no_seen (take (k + 1) xs)
seen_more xs k h = rw (add-one, take-suc xs k power_up h) (sym (seen_added no_seen (take k xs) (get_or xs k power_up)))

-- ---- one MAX6957 more
module _ (s : Seen) (d : Device) (y : Bytes d) where
  -- a byte of the eight
  byte_at : (j k v : ℕ) → port_bytes d / 2 ^ j % 2 ^ 8 ≡ v → Two (ltb (bit_or s.first (port_bytes d) / 2 ^ j % 2 ^ 8) (2 ^ k)) (ltb (s.first / 2 ^ j % 2 ^ 8) (2 ^ k)) (ltb v (2 ^ k))
  byte_at j k v e = or_byte j k s.first (port_bytes d) v e

  -- which byte is which field
  bytes_are : (port_bytes d / 1 % 256 ≡ d.ports.global)
      × (port_bytes d / 256 % 256 ≡ d.ports.test)
      × (port_bytes d / 65536 % 256 ≡ d.ports.config.m)
      × (port_bytes d / 16777216 % 256 ≡ d.ports.config.i)
      × (port_bytes d / 4294967296 % 256 ≡ d.ports.config.s)
      × (port_bytes d / 1099511627776 % 256 ≡ d.ports.transition.mask)
      × (port_bytes d / 281474976710656 % 256 ≡ d.ports.transition.snapshot)
      × (port_bytes d / 72057594037927936 % 256 ≡ d.ports.transition.detecting)
  bytes_are = omega (arith, y.port_global, y.port_test, y.port_m, y.port_i, y.port_s, y.mask, y.snapshot, y.detecting)

  ports_more : ports_fit (ports_with s d) ≡ ports_fit s && port_sound d
  ports_more =
      let b = bytes_are in
      let c = d.ports.config in
      let t = d.ports.transition in
      let levels = cross (or_small 28 s.stored d.ports.stored) (or_small 28 s.pins d.ports.pins) in
      let controls = cross (cross levels (byte_at 0 4 d.ports.global b.0)) (byte_at 8 1 d.ports.test b.1) in
      let config = cross (cross (byte_at 16 1 c.m b.2) (byte_at 24 1 c.i b.3)) (byte_at 32 1 c.s b.4) in
      let transition = cross (cross (cross (byte_at 40 7 t.mask b.5) (byte_at 48 7 t.snapshot b.6)) (byte_at 56 1 t.detecting b.7)) (or_small 1 s.interrupt t.interrupt) in
      (cross (cross (cross controls config) transition) (or_small 1 s.mark d.answer_mark)).same

  -- one record more
  pub seen_next : seen_fit (seen_with s d) ≡ seen_fit s && sound_record d
  unfolding sound_record
  seen_next = go (eqb d.family 1) refl
    where
      swap : (a b c : Bool) → (a && b) && c ≡ (a && c) && b
      swap true b c = and_swap b c
        where
          and_swap : (b c : Bool) → b && c ≡ c && b
          and_swap true true = refl
          and_swap true false = refl
          and_swap false true = refl
          and_swap false false = refl
      swap false b c = refl

      go : (b : Bool) → eqb d.family 1 ≡ b → seen_fit (if b (ports_with s d) (other_with s d)) ≡ seen_fit s && sound_record d
      go true e =
          let f : d.family ≡ 1 = eqb-true d.family 1 e in
          rw f (ap (λ (b : Bool). s.sound && b) ports_more ∙ sym (and_assoc s.sound (ports_fit s) (port_sound d)))
      go false e = swap s.sound (sound_record d) (ports_fit s)

-- ---- all of them
fit_of : (s : Seen) (ds : List Device) → AllBytes ds → seen_fit (seen_of s ds) ≡ seen_fit s && all_sound ds
unfolding seen_of all_sound AllBytes
fit_of s [] y = sym (and-true (seen_fit s))
fit_of s (d ∷ ds) y =
    fit_of (seen_with s d) ds y.1 ∙ ap (λ (b : Bool). b && all_sound ds) (seen_next s d y.0) ∙ and_assoc (seen_fit s) (sound_record d) (all_sound ds)

pub seen_fit_lem : (ds : List Device) → AllBytes ds → seen_fit (seen_of no_seen ds) ≡ all_sound ds
seen_fit_lem ds y = fit_of no_seen ds y

families_with : (s : Seen) (d : Device) → (seen_with s d).families ≡ bit_or s.families d.family
families_with s d = go (eqb d.family 1) refl
  where
    go : (b : Bool) → eqb d.family 1 ≡ b → (if b (ports_with s d) (other_with s d)).families ≡ bit_or s.families d.family
    go true e = rw (eqb-true d.family 1 e)
    go false e = refl

below_of : (k : ℕ) (s : Seen) (ds : List Device) → ltb (seen_of s ds).families (2 ^ k) ≡ ltb s.families (2 ^ k) && families_below (2 ^ k) (families ds)
unfolding seen_of families_below
below_of k s [] = sym (and-true (ltb s.families (2 ^ k)))
below_of k s (d ∷ ds) =
    below_of k (seen_with s d) ds
    ∙ ap (λ (n : ℕ). ltb n (2 ^ k) && families_below (2 ^ k) (families ds)) (families_with s d)
    ∙ ap (λ (b : Bool). b && families_below (2 ^ k) (families ds)) (or_small k s.families d.family).same
    ∙ and_assoc (ltb s.families (2 ^ k)) (ltb d.family (2 ^ k)) (families_below (2 ^ k) (families ds))

-- all are known, and all are of the old family
pub seen_known : (ds : List Device) → ltb (seen_of no_seen ds).families 2 ≡ families_below 2 (families ds)
seen_known ds = below_of 1 no_seen ds

pub seen_old : (ds : List Device) → ltb (seen_of no_seen ds).families 1 ≡ families_below 1 (families ds)
seen_old ds = below_of 0 no_seen ds
