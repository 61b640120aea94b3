-- The proof of `specs/SlippedAccess.antt`'s laws: an access of at least 16n clocks shifts every old bit out, and a word taken decides shift word and mark.
-- Assumes nothing.
use Rattle.ground.proofs.Names.{ℕ, zero, suc, ◌-◌, ◌*◌, ◌≤◌, ◌<◌, le_of_suc-le-suc, not-suc-le-zero, arith, Bool, true, false, ◌&&◌, List, [], ◌∷◌, ◌++◌, map, append_assoc, ◌≡◌, refl, sym, ap, ap₂, ◌∙◌, eqb, ltb, if, length, take, drop, get_or, replicate, length-map, drop_at, take_at, eqb-true, tabulate, tabulate_ext, Agree, and_left, and_right}
use Rattle.refusals.specs.Refusals.{bytes_for}
use Rattle.words.specs.Addresses.{word_of}
use Rattle.words.specs.declared.Register.{Register}
use Rattle.words.specs.declared.Word.{Word}
use Rattle.words.specs.declared.Word.TheVariants.{Write, Read}
use Rattle.wire.specs.Bits.{bits, value, unpack, word_at}
use Rattle.wire.specs.Wire.{string, words, wire, answer, shifted}
use Rattle.wire.proofs.BitLaws.{unpack_append}
use Rattle.wire.proofs.LineLaws.{length_string, length_answer}
use Rattle.wire.proofs.WholeLaws.{whole, word_shifted, answer_front, sent_last}
use Rattle.registers.specs.Sound.{sound_registers}
use Rattle.device.specs.PowerUp.{power_up}
use Rattle.device.specs.Record.{with_shift, with_mark}
use Rattle.port_registers.specs.PortSound.{sound_ports}
use Rattle.device.specs.Families.{ports_taken, takes, pinned, port_sound, sound_record, families}
use Rattle.device.specs.Sound.{sound_of}
use Rattle.device.specs.Taken.{taken, obeyed}
use Rattle.device.specs.declared.Device.{Device}
use Rattle.calls.specs.Calls.{Call, access}
use Rattle.calls.specs.CallRefusals.{families_below, all_sound}
use Rattle.calls.specs.Served.{record_of, shift_words, all_taken}
use Rattle.calls.specs.Outcome.{number, after, reply}
use Rattle.calls.specs.CallLists.{after_all}
use Rattle.calls.specs.NextAccess.{word_taken}
use Rattle.calls.specs.AnswerMark.{marks}
use Rattle.calls.proofs.Accepted.{zero_says, number_alone, after_zero, reply_zero, sent_enough}
use Rattle.calls.proofs.Answered.{taken_at}
use Rattle.calls.proofs.Records.{length_after_all, families_after_all}
use Rattle.calls.proofs.Sound.{all_sound_lem}
use Rattle.laws.specs.SlippedAccess.{Whole, last_word, Alike, AllAlike, shift_cleared, SlippedAccess, slips, SlipExamples}

-- a list of calls with one more
after_last : (qs : List Call) (q : Call) (ds : List Device) → after_all (qs ++ q ∷ []) ds ≡ after q (after_all qs ds)
unfolding after_all
after_last [] q ds = refl
after_last (p ∷ qs) q ds = after_last qs q (after p ds)

-- what a driver takes decides its shift word and mark
old_apart : (d : Device) (s m w : ℕ) → taken (with_mark (with_shift d s) m) w ≡ taken d w
unfolding taken
old_apart d s m w = go (word_of w)
  where
    go : (o : Word Register) → obeyed (with_shift (with_mark (with_shift d s) m) w) o ≡ obeyed (with_shift d w) o
    go (Write r v) = refl
    go (Read r) = refl

taken_apart : (d : Device) (s m w : ℕ) → takes (with_mark (with_shift d s) m) w ≡ takes d w
unfolding takes
taken_apart d s m w =
    elim (eqb d.family 1) as (λ b. if b (ports_taken (with_mark (with_shift d s) m) w) (taken (with_mark (with_shift d s) m) w) ≡ if b (ports_taken d w) (taken d w))
    [ true ↦ refl | false ↦ old_apart d s m w ]

taken_alike : (d e : Device) (w : ℕ) → Alike d e → takes d w ≡ takes e w
taken_alike d e w a = sym (taken_apart d e.shift e.answer_mark w) ∙ ap (λ (x : Device). takes x w) a

-- alike chains have the same families
alike_families : (ds es : List Device) → AllAlike ds es → families ds ≡ families es
unfolding AllAlike
alike_families [] [] a = refl
alike_families [] (e ∷ es) a = absurd a
alike_families (d ∷ ds) [] a = absurd a
alike_families (d ∷ ds) (e ∷ es) a = ap₂ (λ (f : ℕ) (fs : List ℕ). f ∷ fs) (ap (λ (x : Device). x.family) a.0) (alike_families ds es a.1)

families_length : (ds es : List Device) → families ds ≡ families es → length ds ≡ length es
families_length ds es e = sym (length-map ds (λ (d : Device). d.family)) ∙ ap length e ∙ length-map es (λ (d : Device). d.family)

-- alike chains, at one place
alike_length : (ds es : List Device) → AllAlike ds es → length ds ≡ length es
unfolding AllAlike
alike_length [] [] a = refl
alike_length [] (e ∷ es) a = absurd a
alike_length (d ∷ ds) [] a = absurd a
alike_length (d ∷ ds) (e ∷ es) a = ap suc (alike_length ds es a.1)

alike_at_lem : (ds es : List Device) → AllAlike ds es → (k : ℕ) → k < length ds → Alike (get_or ds k power_up) (get_or es k power_up)
unfolding AllAlike
alike_at_lem [] [] a k h = absurd (not-suc-le-zero h)
alike_at_lem [] (e ∷ es) a k h = absurd a
alike_at_lem (d ∷ ds) [] a k h = absurd a
alike_at_lem (d ∷ ds) (e ∷ es) a zero h = a.0
alike_at_lem (d ∷ ds) (e ∷ es) a (suc k) h = alike_at_lem ds es a.1 k (le_of_suc-le-suc h)

-- the same words taken by alike chains
all_alike : (ds es : List Device) (ws : List ℕ) → AllAlike ds es → all_taken ds ws ≡ all_taken es ws
all_alike ds es ws a =
    tabulate_ext (length ds) _ _ (λ k h. taken_alike (get_or ds k power_up) (get_or es k power_up) (get_or ws k 0) (alike_at_lem ds es a k h))
    ∙ rw (alike_length ds es a)

length_words : (ds : List Device) → length (shift_words ds) ≡ length ds
length_words ds = length-map ds (λ (d : Device). d.shift)

string_bits : (ds : List Device) → length (string (shift_words ds)) ≡ 16 * length ds
string_bits ds = rw (length_string (shift_words ds), length_words ds)

module _ (c : ℕ) (sent room : List ℕ) where
  -- an accepted access, on sound records
  access_zero : (ds : List Device) → all_sound ds ≡ true → Whole (length ds) (families ds) c sent room → number (access c sent room) ds ≡ 0
  access_zero ds s w = number_alone (length ds) (families ds) (access c sent room) ds refl refl s refl ∙ eqb-true _ 0 w.served

  -- has enough bytes sent
  enough_sent : (n : ℕ) (fs : List ℕ) → Whole n fs c sent room → bytes_for c ≤ length sent
  enough_sent n fs w = sent_enough c (length sent) (length room) (zero_says n fs true 0 (access c sent room) (eqb-true _ 0 w.served)).bytes

  -- the new words, whatever the old ones
  same_words : (ds es : List Device) (fs : List ℕ) → length ds ≡ length es → Whole (length ds) fs c sent room → shifted (shift_words ds) sent c ≡ shifted (shift_words es) sent c
  same_words ds es fs l w =
      let f = enough_sent (length ds) fs w in
      let a = length_words ds in
      let b = length_words es in
      rw (whole.new_words (shift_words ds) sent c (omega arith) (omega arith), whole.new_words (shift_words es) sent c (omega arith) (omega arith), a, b, l)

  -- driver i's
  last_taken : (ds : List Device) → Whole (length ds) (families ds) c sent room → (i : ℕ) → 1 ≤ i → i ≤ length ds → word_taken ds c sent i ≡ last_word (length ds) i c sent
  last_taken ds w i h g =
      let ws = shift_words ds in
      let f = enough_sent (length ds) (families ds) w in
      let a = length_words ds in
      let k : length ws - 1 - (i - 1) ≡ length ds - i = omega arith in
      word_shifted ws sent c (i - 1) (omega arith)
      ∙ rw (k, sent_last ws sent c (omega arith) (omega arith), a)

  -- the lent bytes after the access: the old string, and what doesn't depend on it
  abbrev later : ℕ → List Bool
  later n = take (8 * bytes_for c - 16 * n) (take (c - 16 * n) (take c (unpack sent)) ++ replicate 8 false) ++ unpack (drop (bytes_for c) room)

  reply_bits : (ds : List Device) → all_sound ds ≡ true → Whole (length ds) (families ds) c sent room
      → unpack (reply (access c sent room) ds) ≡ string (shift_words ds) ++ later (length ds)
  reply_bits ds s w =
      let ws = shift_words ds in
      let f = enough_sent (length ds) (families ds) w in
      let a = length_words ds in
      ap unpack (reply_zero (access c sent room) ds (access_zero ds s w))
      ∙ rw (unpack_append, answer_front ws sent c (omega arith) (omega arith), string_bits ds, append_assoc)

  later_bits : (ds : List Device) → all_sound ds ≡ true → Whole (length ds) (families ds) c sent room
      → drop (16 * length ds) (unpack (reply (access c sent room) ds)) ≡ later (length ds)
  later_bits ds s w =
      ap (drop (16 * length ds)) (reply_bits ds s w)
      ∙ drop_at (string (shift_words ds)) (later (length ds)) (16 * length ds) (string_bits ds)

  first_bits : (ds : List Device) → all_sound ds ≡ true → Whole (length ds) (families ds) c sent room
      → take (16 * length ds) (unpack (reply (access c sent room) ds)) ≡ string (shift_words ds)
  first_bits ds s w =
      ap (take (16 * length ds)) (reply_bits ds s w)
      ∙ take_at (string (shift_words ds)) (later (length ds)) (16 * length ds) (string_bits ds)

  bytes_after_lem : (ds : List Device) → all_sound ds ≡ true → Whole (length ds) (families ds) c sent room
      → drop (bytes_for c) (reply (access c sent room) ds) ≡ drop (bytes_for c) room
  bytes_after_lem ds s w =
      let f = enough_sent (length ds) (families ds) w in
      ap (drop (bytes_for c)) (reply_zero (access c sent room) ds (access_zero ds s w))
      ∙ drop_at (answer (shift_words ds) sent c) (drop (bytes_for c) room) (bytes_for c) (length_answer (shift_words ds) sent c (omega arith))

  wholly_alike : (ds es : List Device) → all_sound ds ≡ true → all_sound es ≡ true → AllAlike ds es → Whole (length ds) (families ds) c sent room
      → after (access c sent room) ds ≡ after (access c sent room) es
  wholly_alike ds es s t a w =
      let q = access c sent room in
      let l = alike_length ds es a in
      let w' : Whole (length es) (families es) c sent room = rw (l, alike_families ds es a) at w in
      after_zero q ds (access_zero ds s w)
      ∙ all_alike ds es (shifted (shift_words ds) sent c) a
      ∙ ap (all_taken es) (same_words ds es (families ds) l w)
      ∙ sym (after_zero q es (access_zero es t w'))

  word_taken_lem : (ds : List Device) (qs : List Call) → all_sound ds ≡ true → Whole (length ds) (families ds) c sent room → (i : ℕ) → 1 ≤ i → i ≤ length ds
      → record_of (after_all (qs ++ access c sent room ∷ []) ds) i ≡ takes (record_of (after_all qs ds) i) (last_word (length ds) i c sent)
  word_taken_lem ds qs s w i h g =
      let q = access c sent room in
      let es = after_all qs ds in
      let l : length es ≡ length ds = length_after_all qs ds in
      let w' : Whole (length es) (families es) c sent room = rw (l, families_after_all qs ds) w in
      let g' : i ≤ length es = rw l g in
      ap (λ (xs : List Device). record_of xs i) (after_last qs q ds ∙ after_zero q es (access_zero es (all_sound_lem qs ds s) w'))
      ∙ taken_at es i h g' c sent room
      ∙ ap (takes (record_of es i)) (last_taken es w' i h g' ∙ ap (λ (n : ℕ). last_word n i c sent) l)

  same_word : (ds es : List Device) (ps qs : List Call) → length ds ≡ length es → Whole (length ds) (families ds) c sent room → (i : ℕ) → 1 ≤ i → i ≤ length ds
      → word_taken (after_all ps ds) c sent i ≡ word_taken (after_all qs es) c sent i
  same_word ds es ps qs l w i h g =
      let a : length (after_all ps ds) ≡ length ds = length_after_all ps ds in
      let b : length (after_all qs es) ≡ length es = length_after_all qs es in
      ap (λ (ws : List ℕ). get_or ws (i - 1) 0) (same_words (after_all ps ds) (after_all qs es) (families ds) (a ∙ l ∙ sym b) (rw a w))

-- a chain with shift words 0 and marks cleared
cleared_alike : (ds : List Device) → AllAlike ds (map shift_cleared ds)
unfolding AllAlike
cleared_alike [] = tt
cleared_alike (d ∷ ds) = (refl, cleared_alike ds)

zeros : (f : Device → ℕ) → ((d : Device) → f (shift_cleared d) ≡ 0) → (ds : List Device) → map f (map shift_cleared ds) ≡ replicate (length ds) 0
zeros f e [] = refl
zeros f e (d ∷ ds) = rw (e d, zeros f e ds)

cleared_marks : (ds : List Device) → marks (map shift_cleared ds) ≡ replicate (length ds) 0
cleared_marks = zeros (λ d. d.answer_mark) (λ d. refl)

cleared_one : (d : Device) → sound_record d ≡ true → sound_record (shift_cleared d) ≡ true
unfolding sound_record
cleared_one d = go (eqb d.family 0) (eqb d.family 1)
  where
    go : (a b : Bool) → if a (sound_of d) (if b (port_sound d) true) ≡ true → if a (sound_of (shift_cleared d)) (if b (port_sound (shift_cleared d)) true) ≡ true
    go true b r =
        rw (
          and_left (sound_registers d.registers) (ltb d.answer_mark 2) (and_left (sound_registers d.registers && ltb d.answer_mark 2) (ltb d.command 128) r),
          and_right (sound_registers d.registers && ltb d.answer_mark 2) (ltb d.command 128) r,
        )
    go false true r = rw (and_left (sound_ports d.ports) (ltb d.answer_mark 2) r)
    go false false r = refl

cleared_sound : (ds : List Device) → all_sound ds ≡ true → all_sound (map shift_cleared ds) ≡ true
unfolding all_sound
cleared_sound [] s = refl
cleared_sound (d ∷ ds) s = rw (cleared_one d (and_left (sound_record d) (all_sound ds) s), cleared_sound ds (and_right (sound_record d) (all_sound ds) s))

pub slipped_access : SlippedAccess
slipped_access =
    record {
      fixed_word = λ ds qs c sent room. word_taken_lem c sent room ds qs;
      same_word = λ ds es ps qs c sent room. same_word c sent room ds es ps qs;
      wholly_alike = λ ds es c sent room. wholly_alike c sent room ds es;
      later_bits = λ ds es c sent room s t k w.
          let l = families_length ds es k in
          later_bits c sent room ds s w ∙ ap (later c sent room) l
          ∙ sym (ap (λ (n : ℕ). drop (16 * n) (unpack (reply (access c sent room) es))) l ∙ later_bits c sent room es t (rw (l, k) at w));
      first_bits = λ ds c sent room. first_bits c sent room ds;
      bytes_after = λ ds c sent room. bytes_after_lem c sent room ds;
      as_cleared = λ ds c sent room s w. wholly_alike c sent room ds (map shift_cleared ds) s (cleared_sound ds s) (cleared_alike ds) w;
      cleared_alike = cleared_alike;
      cleared_words = zeros (λ d. d.shift) (λ d. refl);
      cleared_marks = cleared_marks;
    }

bench_slips : Agree slips
unfolding tabulate bits value unpack word_at string words wire shifted taken takes families_below sound_record pinned all_sound number after after_all
bench_slips = refl

some_whole : Whole 2 (0 ∷ 1 ∷ []) 33 (replicate 5 0x55) (replicate 6 0)
unfolding families_below
some_whole = record { served = refl; clocks = omega arith }

pub slip_examples : SlipExamples
slip_examples = record { slipped = bench_slips; whole = some_whole }
