-- The proof of `specs/ChainLaws.antt`'s laws: by demand 3 a driver of the chain takes its own words, one after the other.
-- Assumes nothing.
use Rattle.ground.proofs.Names.{ℕ, ◌*◌, ◌≤◌, arith, Bool, true, ◌&&◌, true≢false, List, [], ◌∷◌, ◌++◌, map, ◌≡◌, refl, sym, ap, ap₂, ◌∙◌, eqb, length, eqb-true, if, and_left, and_right}
use mathlib.Core.List.{map-append}
use Rattle.device.specs.Table15.{after_words}
use Rattle.device.specs.Taken.{taken}
use Rattle.device.specs.Families.{families}
use Rattle.device.proofs.Families.{old_takes, takes_family}
use Rattle.device.specs.declared.Device.{Device}
use Rattle.plans.specs.Words.{digit_write}
use Rattle.plans.proofs.Act.{or_cases}
use Rattle.calls.specs.Calls.{access}
use Rattle.calls.specs.CallRefusals.{families_below, all_sound}
use Rattle.calls.specs.Served.{record_of}
use Rattle.calls.specs.Isolation.{accepted, own_word, lone_step, lone, AllFull}
use Rattle.calls.proofs.Alone.{isolated}
use Rattle.laws.specs.DriverLaws.{registers_after}
use Rattle.laws.specs.ChainLaws.{accesses_for, all_accepted, registers_at, Apart, ChainLaws}
use Rattle.laws.proofs.Laws.{either_order, both_planes, waits, clear_alone}

all_full : (n : ℕ) (fs room : List ℕ) (sents : List (List ℕ)) → AllFull n fs (accesses_for n room sents)
unfolding AllFull
all_full n fs room [] = tt
all_full n fs room (sent ∷ sents) = ((λ e. refl), all_full n fs room sents)

-- the lone driver takes its words
lone_words : (n : ℕ) (fs : List ℕ) (i : ℕ) (room : List ℕ) (sents : List (List ℕ)) (d : Device) → d.family ≡ 0 → all_accepted n fs room sents ≡ true
    → lone n fs i (accesses_for n room sents) d ≡ after_words d (map (own_word n i) sents)
unfolding lone all_accepted
lone_words n fs i room [] d z a = refl
lone_words n fs i room (sent ∷ sents) d z a =
    let q = access (16 * n) sent room in
    let old = old_takes d (own_word n i sent) (rw z) in
    ap (λ (b : Bool). lone n fs i (accesses_for n room sents) (if b (lone_step n i q d) d)) (and_left (accepted n fs q) (all_accepted n fs room sents) a)
    ∙ ap (lone n fs i (accesses_for n room sents)) old
    ∙ lone_words n fs i room sents (taken d (own_word n i sent)) (ap (λ (x : Device). x.family) (sym old) ∙ takes_family d (own_word n i sent) ∙ z) (and_right (accepted n fs q) (all_accepted n fs room sents) a)

-- so does a driver of a chain
own_words : (ds : List Device) (room : List ℕ) (sents : List (List ℕ)) → all_sound ds ≡ true → all_accepted (length ds) (families ds) room sents ≡ true → (i : ℕ) → 1 ≤ i → i ≤ length ds → (record_of ds i).family ≡ 0
    → registers_at ds room sents i ≡ registers_after (record_of ds i) (map (own_word (length ds) i) sents)
own_words ds room sents s a i h g z =
    ap (λ (d : Device). d.registers)
    ((isolated (accesses_for (length ds) room sents) ds s (all_full (length ds) (families ds) room sents) i h g).same_record
    ∙ lone_words (length ds) (families ds) i room sents (record_of ds i) z a)

-- words that draw, in either order
apart : (d : Device) (w v : ℕ) → Apart w v → registers_after d (w ∷ v ∷ []) ≡ registers_after d (v ∷ w ∷ [])
apart d w v a =
    or_cases (digit_write w) (eqb w 0) a.first
    (λ g. or_cases (digit_write v) (eqb v 0) a.second (λ h. either_order d w v g h (a.digits g h)) (λ e. rw (eqb-true v 0 e) (waits d w g)))
    (λ z. or_cases (digit_write v) (eqb v 0) a.second (λ h. rw (eqb-true w 0 z) (sym (waits d v h))) (λ e. rw (eqb-true w 0 z, eqb-true v 0 e)))

-- accepted in another order, or some of them
accepted_turned : (n : ℕ) (fs room a b : List ℕ) → all_accepted n fs room (a ∷ b ∷ []) ≡ true → all_accepted n fs room (b ∷ a ∷ []) ≡ true
unfolding all_accepted
accepted_turned n fs room a b h =
    let x = accepted n fs (access (16 * n) a room) in
    let y = accepted n fs (access (16 * n) b room) in
    rw (and_left y true (and_right x (y && true) h), and_left x (y && true) h)

accepted_first : (n : ℕ) (fs room a : List ℕ) (sents : List (List ℕ)) → all_accepted n fs room (a ∷ sents) ≡ true → (all_accepted n fs room (a ∷ []) ≡ true) × (all_accepted n fs room sents ≡ true)
unfolding all_accepted
accepted_first n fs room a sents h = (rw (and_left (accepted n fs (access (16 * n) a room)) _ h), and_right (accepted n fs (access (16 * n) a room)) _ h)

accepted_last : (n : ℕ) (fs room a : List ℕ) (sents : List (List ℕ)) → all_accepted n fs room sents ≡ true → all_accepted n fs room (a ∷ []) ≡ true → all_accepted n fs room (sents ++ a ∷ []) ≡ true
unfolding all_accepted
accepted_last n fs room a [] h g = g
accepted_last n fs room a (b ∷ sents) h g =
    rw (
      and_left (accepted n fs (access (16 * n) b room)) _ h,
      accepted_last n fs room a sents (and_right (accepted n fs (access (16 * n) b room)) _ h) g,
    )

-- accesses and words that the laws speak of
accepted_ones : all_accepted 2 (0 ∷ 1 ∷ []) (0 ∷ 0 ∷ 0 ∷ 0 ∷ []) ((0x20 ∷ 0x01 ∷ 0x00 ∷ 0x00 ∷ []) ∷ (0x28 ∷ 0x02 ∷ 0x20 ∷ 0x03 ∷ []) ∷ []) ≡ true
unfolding all_accepted families_below
accepted_ones = refl

apart_ones : Apart 0x2001 0x2802 × Apart 0x0000 0x2003
apart_ones = (
  record { first = refl; second = refl; digits = λ a b e. absurd (omega (arith, e)) },
  record { first = refl; second = refl; digits = λ a b e. absurd (true≢false (sym a)) },
)

pub chain_laws : ChainLaws
chain_laws =
    record {
      accepted_ones = accepted_ones;
      apart_ones = apart_ones;
      either_order = λ ds room a b s h i l g z p.
          own_words ds room (a ∷ b ∷ []) s h i l g z
          ∙ apart (record_of ds i) (own_word (length ds) i a) (own_word (length ds) i b) p
          ∙ sym (own_words ds room (b ∷ a ∷ []) s (accepted_turned (length ds) (families ds) room a b h) i l g z);
      both_planes = λ ds room both first second s h i l g z k v hk hv e e0 e1.
          let n = length ds in
          let t = accepted_first n (families ds) room both (first ∷ second ∷ []) h in
          own_words ds room (both ∷ []) s t.0 i l g z
          ∙ ap (λ (w : ℕ). registers_after (record_of ds i) (w ∷ [])) e
          ∙ both_planes (record_of ds i) k v hk hv
          ∙ sym (own_words ds room (first ∷ second ∷ []) s t.1 i l g z ∙ ap₂ (λ (w x : ℕ). registers_after (record_of ds i) (w ∷ x ∷ [])) e0 e1);
      clear_alone = λ ds room sents clear s h i l g z d c.
          let n = length ds in
          let t = accepted_first n (families ds) room clear sents h in
          own_words ds room (sents ++ clear ∷ []) s (accepted_last n (families ds) room clear sents t.1 t.0) i l g z
          ∙ ap (registers_after (record_of ds i)) (map-append (own_word n i) sents (clear ∷ []))
          ∙ clear_alone (record_of ds i) (map (own_word n i) sents) (own_word n i clear) d c
          ∙ sym (own_words ds room (clear ∷ []) s t.0 i l g z);
    }
