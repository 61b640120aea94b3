-- The proof of `specs/NextAccess.antt`'s theorem: what is given and asked between two accesses leaves every shift word as it is.
-- Assumes nothing.
use Rattle.ground.proofs.Names.{ℕ, ◌-◌, ◌/◌, ◌%◌, ◌≤◌, true, List, [], ◌∷◌, ◌≡◌, refl, sym, ap, ◌∙◌, length, get_or, length-map, List·getD-map, bit}
use Rattle.wire.specs.Bits.{bits, value}
use Rattle.device.specs.PowerUp.{power_up}
use Rattle.device.specs.Taken.{answer_word}
use Rattle.device.specs.Families.{data_at, families}
use Rattle.device.specs.declared.Device.{Device}
use Rattle.device.proofs.Families.{pinned_shift, both_families}
use Rattle.calls.specs.Calls.{Step, scan, levels, clocks, Call, access, give, ask, ask_chain}
use Rattle.calls.specs.CallRefusals.{all_sound}
use Rattle.calls.specs.Served.{record_of, shift_words, stepped}
use Rattle.calls.specs.Outcome.{number, after, reply}
use Rattle.calls.specs.CallLists.{after_all}
use Rattle.calls.specs.Isolation.{own_word}
use Rattle.calls.specs.NextAccess.{NoAccess, word_taken, NextAccess}
use Rattle.calls.proofs.Accepted.{number_says, after_zero, reply_zero, sent_enough, after_same, after_by}
use Rattle.calls.proofs.Records.{length_after, given_same, families_after, length_after_all}
use Rattle.calls.proofs.Sound.{after_sound}
use Rattle.calls.proofs.Answered.{taken_at, own_answered}

-- no step touches the shift word
pub same_shift : (s : Step) (x : Device) → (stepped s x).shift ≡ x.shift
same_shift (scan a b c d) x = refl
same_shift (levels l) x = pinned_shift x l
same_shift (clocks k) x = refl

-- calls that are no accepted access leave the shift words as they are
words_kept : (n : ℕ) (fs : List ℕ) (qs : List Call) (ds : List Device) → length ds ≡ n → families ds ≡ fs → all_sound ds ≡ true → NoAccess n fs qs → shift_words (after_all qs ds) ≡ shift_words ds
unfolding after_all NoAccess
words_kept n fs [] ds l k s f = refl
words_kept n fs (access c sent room ∷ qs) ds l k s f =
    let q = access c sent room in
    words_kept n fs qs (after q ds) (length_after q ds ∙ l) (families_after q ds ∙ k) (after_sound q ds s) f.1 ∙ rw (after_by n fs q ds l k s refl, f.0)
words_kept n fs (give j x ∷ qs) ds l k s f =
    words_kept n fs qs _ (length_after (give j x) ds ∙ l) (families_after (give j x) ds ∙ k) (after_sound (give j x) ds s) f ∙ given_same (λ d. d.shift) same_shift j x ds
words_kept n fs (ask j x ∷ qs) ds l k s f =
    words_kept n fs qs _ (length_after (ask j x) ds ∙ l) (families_after (ask j x) ds ∙ k) (after_sound (ask j x) ds s) f ∙ ap shift_words (after_same (ask j x) ds refl)
words_kept n fs (ask_chain x ∷ qs) ds l k s f =
    words_kept n fs qs _ (length_after (ask_chain x) ds ∙ l) (families_after (ask_chain x) ds ∙ k) (after_sound (ask_chain x) ds s) f ∙ ap shift_words (after_same (ask_chain x) ds refl)

-- a driver's shift word by the shift words
shift_at : (ds : List Device) (i : ℕ) → get_or (shift_words ds) (i - 1) 0 ≡ (record_of ds i).shift
shift_at ds i = List·getD-map (λ (d : Device). d.shift) ds (i - 1) power_up

-- after a read the driver holds the answer, until the next access
answer_held : (ds : List Device) (c : ℕ) (sent room : List ℕ) (qs : List Call) (i : ℕ) → 1 ≤ i → i ≤ length ds
    → number (access c sent room) ds ≡ 0 → bit 15 (word_taken ds c sent i) ≡ true → NoAccess (length ds) (families ds) qs
    → (record_of (after_all qs (after (access c sent room) ds)) i).shift
    ≡ answer_word (word_taken ds c sent i) (data_at (record_of ds i) (word_taken ds c sent i / 256 % 128))
answer_held ds c sent room qs i h g z r f =
    let q = access c sent room in
    let es = after q ds in
    let kept = words_kept (length ds) (families ds) qs es (length_after q ds) (families_after q ds) (after_sound q ds (number_says q ds z).all_sound) f in
    sym (shift_at (after_all qs es) i)
    ∙ ap (λ (ws : List ℕ). get_or ws (i - 1) 0) kept
    ∙ shift_at es i
    ∙ ap (λ (xs : List Device). (record_of xs i).shift) (after_zero q ds z)
    ∙ ap (λ (d : Device). d.shift) (taken_at ds i h g c sent room)
    ∙ both_families.word.after_read (record_of ds i) (word_taken ds c sent i) r

-- an access on any other records with the same shift words, as sound, has the same answer
same_answer : (ds es : List Device) (c : ℕ) (sent room : List ℕ) → shift_words ds ≡ shift_words es → all_sound ds ≡ all_sound es → families ds ≡ families es
    → reply (access c sent room) ds ≡ reply (access c sent room) es
unfolding reply number
same_answer ds es c sent room w s k =
    let l : length ds ≡ length es =
    sym (length-map ds (λ (d : Device). d.shift)) ∙ ap length w ∙ length-map es (λ (d : Device). d.shift) in
    rw (l, s, w, k)

-- the read's answer comes out in the next accepted access
pub next_access : NextAccess
next_access =
    record {
      comes_next = λ ds c sent room qs next nextSent nextRoom i h g z r f z' e.
          let q = access next nextSent nextRoom in
          let es = after_all qs (after (access c sent room) ds) in
          let l : length es ≡ length ds = length_after_all qs _ ∙ length_after (access c sent room) ds in
          let b = sent_enough next (length nextSent) (length nextRoom) (number_says q es z').bytes in
          let o = own_answered es i h (rw l g) next nextSent nextRoom (rw l e) b in
          ap (own_word (length ds) i) (reply_zero q es z')
          ∙ (rw l at o)
          ∙ ap (λ (w : ℕ). value (bits 16 w)) (answer_held ds c sent room qs i h g z r f);
      not_its_own = same_answer;
    }
