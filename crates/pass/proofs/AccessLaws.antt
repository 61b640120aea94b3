-- The access by what its passes leave: the number found, the words copied, the words taken.
--     access_number, access-refused, access-served     its outcome
--     access_whole                                     the same where all the records are passed at once
--     front_words, front_room                          the wire on the first of some words
--     access_early, access_late, access_done           the same of a call that is refused by its arguments, by its records, and of one that is served
--     length_next                                      how many words the wire leaves
-- Assumes nothing.
use Rattle.ground.proofs.Names.{ℕ, ◌≤◌, ◌<◌, arith, Bool, true, false, ◌&&◌, List, [], ◌∷◌, ◌++◌, map, append-nil, ◌≡◌, refl, sym, ap, ◌∙◌, eqb, leb, length, get_or, take, drop, replicate, length-append, length-drop, length-map, length-take-le, List·getD-append, List·getD-map, take_at, take-length, drop-length, ext_get_or, eqb-true, eq-eqb, ne_eqb, le-leb, le_refl, take-append-drop, if, tabulate, length_tabulate, get_d_tabulate, tabulate_ext}
use Rattle.refusals.specs.Refusals.{bytes_for, chain_refusal, sound_refusal, family_refusal, first_of, size_refusal}
use Rattle.refusals.proofs.RefusalLaws.{first_zero, found_rest}
use Rattle.wire.specs.Shift.{fits, words_after, room_after}
use Rattle.wire.specs.Wire.{answer, shifted}
use Rattle.wire.proofs.WholeLaws.{length_shifted}
use Rattle.device.specs.PowerUp.{power_up}
use Rattle.device.specs.Families.{takes, families}
use Rattle.device.specs.declared.Device.{Device}
use Rattle.calls.specs.Calls.{access}
use Rattle.calls.specs.CallRefusals.{families_below, all_sound}
use Rattle.calls.specs.Served.{shift_words, all_taken}
use Rattle.calls.specs.Outcome.{number, after, reply, outcome}
use Rattle.pass.specs.Found.{access_by_arguments, to_pass_in, in_room, found}
use Rattle.pass.specs.OneByOne.{words_to, taken_to}
use Rattle.pass.proofs.FoundLaws.{chain_long, pass_in_le}
use Rattle.pass.proofs.StepLaws.{length_words}

module _ (ds : List Device) (c : ℕ) (sent room : List ℕ) where
  abbrev n : ℕ
  n = length ds

  abbrev first : ℕ
  first = access_by_arguments n c (length sent) (length room)

  abbrev zeros : List ℕ
  zeros = replicate 16 0

  abbrev m : ℕ
  m = to_pass_in first n (length zeros)

  abbrev nr : ℕ
  nr = found first (all_sound (take m ds)) (families_below 2 (families (take m ds)))

  -- no number yet: the chain is short enough, and the clocks and bytes fit
  no_first : first ≡ 0 → (chain_refusal n ≡ 0) × (size_refusal c (length sent) (length room) ≡ 0)
  no_first z =
      let a = first_zero (chain_refusal n) (size_refusal c (length sent) (length room) ∷ []) z in
      (a.0, (first_zero (size_refusal c (length sent) (length room)) [] a.1).0)

  short : first ≡ 0 → n ≤ 16
  short z = chain_long n (no_first z).0

  all_passed : first ≡ 0 → m ≡ n
  all_passed z = rw (eq-eqb first 0 z, le-leb n 16 (short z))

  pub access_number : nr ≡ number (access c sent room) ds
  unfolding number
  access_number = go (eqb first 0) refl ∙ found_rest (chain_refusal n ∷ size_refusal c (length sent) (length room) ∷ []) (sound_refusal (all_sound ds) ∷ family_refusal (families_below 2 (families ds)) ∷ [])
    where
      go : (b : Bool) → eqb first 0 ≡ b → if b (first_of (sound_refusal (all_sound (take m ds)) ∷ family_refusal (families_below 2 (families (take m ds))) ∷ [])) first ≡ if b (first_of (sound_refusal (all_sound ds) ∷ family_refusal (families_below 2 (families ds)) ∷ [])) first
      go true e =
          let whole : take m ds ≡ ds = ap (λ (k : ℕ). take k ds) (all_passed (eqb-true first 0 e)) ∙ take-length ds in
          ap (λ (xs : List Device). first_of (sound_refusal (all_sound xs) ∷ family_refusal (families_below 2 (families xs)) ∷ [])) whole
      go false e = refl

  pub access_refused : (nr ≡ 0 → ⊥) → outcome (access c sent room) ds ≡ record { number = nr; records = ds; back = room }
  unfolding after reply
  access_refused z = rw (← access_number, ne_eqb nr 0 z)

  module _ (z : nr ≡ 0) where
    first_is_zero : first ≡ 0
    first_is_zero = go (eqb first 0) refl z
      where
        go : (b : Bool) → eqb first 0 ≡ b → if b (first_of (sound_refusal (all_sound (take m ds)) ∷ family_refusal (families_below 2 (families (take m ds))) ∷ [])) first ≡ 0 → first ≡ 0
        go true e q = eqb-true first 0 e
        go false e q = q

    length_words_to : length (words_to ds zeros m) ≡ 16
    length_words_to = length_words ds zeros m (pass_in_le first n 16)

    -- the wire serves it
    wire_fits : fits (words_to ds zeros m) n c sent room ≡ true
    wire_fits =
        go (leb n 16) (leb n (length (words_to ds zeros m))) (eqb (size_refusal c (length sent) (length room)) 0)
        (le-leb n 16 (short first_is_zero)) (le-leb n (length (words_to ds zeros m)) (omega (arith, length_words_to, short first_is_zero))) (eq-eqb _ 0 (no_first first_is_zero).1)
      where
        go : (a b c : Bool) → a ≡ true → b ≡ true → c ≡ true → a && b && c ≡ true
        go a b c p q r = rw (p, q, r)

    -- the words that were copied are the shift words
    words_are : take n (words_to ds zeros m) ≡ shift_words ds
    words_are =
        let f : Device → ℕ = λ d. d.shift in
        let t : tabulate n (λ i. (get_or ds i power_up).shift) ≡ map f ds =
        ext_get_or 0 _ _ (length_tabulate n _ ∙ sym (length-map ds f)) (λ i h.
        let b : i < n = rw length_tabulate at h in
        get_d_tabulate n _ 0 i b ∙ sym (List·getD-map f ds i power_up)) in
        rw (all_passed first_is_zero) (take_at (tabulate n (λ i. (get_or ds i power_up).shift)) (drop n zeros) n (length_tabulate n _) ∙ t)

    shifted_words : words_after (words_to ds zeros m) n c sent room ≡ shifted (shift_words ds) sent c ++ drop n (words_to ds zeros m)
    shifted_words = rw (wire_fits, words_are)

    length_shifted_words : length (shifted (shift_words ds) sent c) ≡ n
    length_shifted_words = length_shifted (shift_words ds) sent c ∙ length-map ds (λ (d : Device). d.shift)

    pub length_next : length (words_after (words_to ds zeros m) n c sent room) ≡ 16
    length_next = rw (shifted_words, length-append, length_shifted_words, length-drop, length_words_to) (omega (arith, short first_is_zero))

    abbrev next : List ℕ
    next = words_after (words_to ds zeros m) n c sent room

    -- every record takes a word
    room_is : in_room n (length next) ≡ n
    room_is = ap (λ (b : Bool). if b n 0) (le-leb n (length next) (omega (arith, length_next, short first_is_zero)))

    pub access_served : outcome (access c sent room) ds ≡ record { number = nr; records = taken_to ds next (in_room n (length next)); back = room_after (words_to ds zeros m) n c sent room }
    unfolding after reply
    access_served =
        let each : tabulate n (λ i. takes (get_or ds i power_up) (get_or next i 0)) ≡ all_taken ds (shifted (shift_words ds) sent c) =
        tabulate_ext n _ _ (λ i b. rw shifted_words (ap (λ (v : ℕ). takes (get_or ds i power_up) v) (List·getD-append (shifted (shift_words ds) sent c) _ 0 i (rw length_shifted_words b)))) in
        let all : taken_to ds next (in_room n (length next)) ≡ all_taken ds (shifted (shift_words ds) sent c) = ap (λ (k : ℕ). taken_to ds next k) room_is ∙ rw (drop-length, append-nil) each in
        let back : room_after (words_to ds zeros m) n c sent room ≡ answer (shift_words ds) sent c ++ drop (bytes_for c) room = rw (wire_fits, words_are) in
        rw (all, back, ← access_number, z)

    -- the same where all the records are passed, and all take a word
    pub access_whole : outcome (access c sent room) ds ≡ record { number = 0; records = taken_to ds (words_after (words_to ds zeros n) n c sent room) n; back = room_after (words_to ds zeros n) n c sent room }
    access_whole = rw (z, room_is, all_passed first_is_zero) at access_served

-- the wire on the first n of some words, as a row of their own
module _ (ws : List ℕ) (n c : ℕ) (sent room : List ℕ) (h : n ≤ length ws) where
  abbrev front : List ℕ
  front = take n ws

  front_length : length front ≡ n
  front_length = length-take-le n ws h

  front_fits : fits front (length front) c sent room ≡ fits ws n c sent room
  front_fits = rw (front_length, le-leb n n (le_refl n), le-leb n (length ws) h)

  pub front_words : words_after front (length front) c sent room ++ drop n ws ≡ words_after ws n c sent room
  front_words = rw (front_fits, take-length, drop-length, append-nil) (go (fits ws n c sent room))
    where
      go : (b : Bool) → if b (shifted front sent c) front ++ drop n ws ≡ if b (shifted front sent c ++ drop n ws) ws
      go true = refl
      go false = take-append-drop n ws

  pub front_room : room_after front (length front) c sent room ≡ room_after ws n c sent room
  front_room = rw (front_fits, take-length)

module _ (ds : List Device) (c : ℕ) (sent room : List ℕ) where
  abbrev size : ℕ
  size = length ds

  abbrev early : ℕ
  early = access_by_arguments size c (length sent) (length room)

  abbrev passed_in : ℕ
  passed_in = in_room size 16

  -- the number by the records, of which all are passed that have a word
  abbrev pub late : ℕ
  late = found 0 (all_sound (take passed_in ds)) (families_below 2 (families (take passed_in ds)))

  late_number : early ≡ 0 → nr ds c sent room ≡ late
  late_number z = rw z

  pub access_early : {k : ℕ} → k ≡ early → (k ≡ 0 → ⊥) → outcome (access c sent room) ds ≡ record { number = k; records = ds; back = room }
  access_early {k} e h =
      let r : nr ds c sent room ≡ k = rw (ne_eqb early 0 (λ z. h (e ∙ z))) (sym e) in
      rw (← r) (access_refused ds c sent room (λ z. h (sym r ∙ z)))

  pub access_late : {k : ℕ} → 0 ≡ early → k ≡ late → (k ≡ 0 → ⊥) → outcome (access c sent room) ds ≡ record { number = k; records = ds; back = room }
  access_late {k} z e h =
      let r : nr ds c sent room ≡ k = late_number (sym z) ∙ sym e in
      rw (← r) (access_refused ds c sent room (λ z. h (sym r ∙ z)))

  pub access_done : {ws next back : List ℕ} {xs : List Device} → 0 ≡ early → 0 ≡ late → ws ≡ words_to ds (zeros ds c sent room) passed_in
      → next ≡ words_after (take size ws) (length (take size ws)) c sent room → back ≡ room_after (take size ws) (length (take size ws)) c sent room
      → xs ≡ taken_to ds (next ++ drop size ws) (in_room size (length (next ++ drop size ws)))
      → outcome (access c sent room) ds ≡ record { number = 0; records = xs; back = back }
  access_done {ws} z l w e f g =
      let r : nr ds c sent room ≡ 0 = late_number (sym z) ∙ sym l in
      let p : m ds c sent room ≡ passed_in = rw (← z) in
      let w' : ws ≡ words_to ds (zeros ds c sent room) (m ds c sent room) = rw p w in
      let h : size ≤ length ws = omega (arith, ap length w', length_words_to ds c sent room r, short ds c sent room (sym z)) in
      rw (g, e, f, front_words ws size c sent room h, front_room ws size c sent room h, w') (rw r at (access_served ds c sent room r))
