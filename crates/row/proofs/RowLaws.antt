-- The calls by value do on a row what they do on a lent chain of its records.
--     length_records                               how many records there are
--     number_found, call_found, access_found       the number
--     in_row                                       a driver that is named is one of the sixteen
--     give_refused, give_done                      a call that gives a driver something
--     show_refused, show_done                      what a cathode shows, and the answer mark
--     access_refused, access_done                  an access
-- Assumes nothing.
use Rattle.ground.proofs.Names.{ℕ, ◌-◌, ◌≤◌, ◌<◌, min, arith, Bool, true, false, List, [], ◌∷◌, ◌++◌, append-nil, ◌≡◌, refl, sym, ap, ◌∙◌, eqb, ltb, length, get_or, take, drop, set, replicate, length-take, take-append-drop, take-append_seam, List·getD-append, set-append_left, drop-length, ne_eqb, if, tabulate, tabulate_ext}
use lib.Seq.{drop-append_seam}
use Rattle.refusals.specs.Refusals.{chain_refusal, sound_refusal, family_refusal, first_of, size_refusal}
use Rattle.refusals.proofs.RefusalLaws.{found_rest}
use Rattle.wire.specs.Shift.{words_after, room_after}
use Rattle.device.specs.PowerUp.{power_up}
use Rattle.device.specs.Families.{takes, families}
use Rattle.device.specs.declared.Device.{Device}
use Rattle.display.specs.Pins.{segments_of}
use Rattle.calls.specs.Calls.{Step, Question, Call, access, give, ask, segments}
use Rattle.calls.specs.CallRefusals.{families_below, all_sound}
use Rattle.calls.specs.Served.{record_of, stepped, refused_back}
use Rattle.calls.specs.Outcome.{number, after, reply, Outcome}
use Rattle.calls.proofs.Accepted.{after_zero, reply_zero}
use Rattle.pass.specs.Own.{step_own, question_own}
use Rattle.pass.specs.Widths.{AllBytes}
use Rattle.pass.specs.Seen.{no_seen, seen_of, seen_fit}
use Rattle.pass.specs.Found.{by_arguments, access_by_arguments, to_pass, found, found_by, call_refusal}
use Rattle.pass.specs.OneByOne.{words_to, taken_to}
use Rattle.pass.proofs.FoundLaws.{in_range, call_there, call_records, give_number as give-on, ask_number as ask-on}
use Rattle.pass.proofs.SeenLaws.{seen_fit_lem, seen_known, seen_old}
use Rattle.pass.proofs.AccessLaws.{access_number, access_whole}
use Rattle.row.specs.Row.{records, number_on, reply_on, done_on, shown_on}
use Rattle.row.specs.declared.Row.{Row}

-- ---- the first n of a list, and the others
module _ {A : Type 0} where
  part_take : (n : ℕ) (xs : List A) → take (length (take n xs)) xs ≡ take n xs
  part_take n xs = rw take-append-drop at (take-append_seam (take n xs) (drop n xs))

  part_drop : (n : ℕ) (xs : List A) → drop (length (take n xs)) xs ≡ drop n xs
  part_drop n xs = rw take-append-drop at (drop-append_seam (take n xs) (drop n xs))

  -- an element of the first n, and the same replaced
  part_get : (n : ℕ) (xs : List A) (i : ℕ) (z : A) → i < length (take n xs) → get_or xs i z ≡ get_or (take n xs) i z
  part_get n xs i z h = rw take-append-drop at (List·getD-append (take n xs) (drop n xs) z i h)

  part_set : (n : ℕ) (xs : List A) (i : ℕ) (f : A → A) (z : A) → i < length (take n xs)
      → set xs i (f (get_or xs i z)) ≡ set (take n xs) i (f (get_or (take n xs) i z)) ++ drop n xs
  part_set n xs i f z h = rw (part_get n xs i z h) (rw take-append-drop at (set-append_left (take n xs) (drop n xs) i (f (get_or (take n xs) i z)) h))

-- ---- how many records there are
module _ (r : Row) (sixteen : length r.devices ≡ 16) where
  pub length_records : length (records r) ≡ min r.n 16
  length_records = rw (length-take, sixteen)

  -- a driver that is named is one of the sixteen
  pub in_row : (j : ℕ) (own : ℕ) (k : ℕ) → k ≡ call_refusal (records r) j own → k ≡ 0 → (1 ≤ j) × (j ≤ 16)
  in_row j own k e z =
      let h = in_range (records r) j own (sym e ∙ z) in
      omega (arith, h, length_records)

-- ---- the number of a call, once the n records are passed
module _ (r : Row) (n : ℕ) (l : n ≡ length (records r)) where
  abbrev ds : List Device
  ds = records r

  -- the first n of the sixteen are the chain's
  all_of : take n r.devices ≡ ds
  all_of = rw l (part_take r.n r.devices)

  pub number_found : (first w : ℕ) → w ≡ to_pass first n → AllBytes (take w r.devices)
      → found first (seen_fit (seen_of no_seen (take w r.devices))) (ltb (seen_of no_seen (take w r.devices)).families 2) ≡ found first (all_sound ds) (families_below 2 (families ds))
  number_found first w p y = rw (seen_fit_lem (take w r.devices) y, seen_known (take w r.devices), p) (go (eqb first 0))
    where
      go : (b : Bool) → if b (first_of (sound_refusal (all_sound (take (if b n 0) r.devices)) ∷ family_refusal (families_below 2 (families (take (if b n 0) r.devices))) ∷ [])) first
          ≡ if b (first_of (sound_refusal (all_sound ds) ∷ family_refusal (families_below 2 (families ds)) ∷ [])) first
      go true = rw all_of
      go false = refl

  -- the arguments give no number: the driver is there
  pub there : (j first : ℕ) → first ≡ by_arguments n j → first ≡ 0 → (1 ≤ j) × (j ≤ n)
  there j first f z = rw (← l) at (call_there ds j 0 (rw l at (sym f ∙ z)))

  pub call_found : (j own first : ℕ) → first ≡ by_arguments n j → first ≡ 0 → AllBytes (take n r.devices)
      → found_by (seen_fit (seen_of no_seen (take n r.devices))) (ltb (seen_of no_seen (take n r.devices)).families 2) (ltb (seen_of no_seen (take n r.devices)).families 1) own (get_or r.devices (j - 1) power_up).family
      ≡ call_refusal ds j own
  call_found j own first f z y =
      let h = there j first f z in
      rw (seen_fit_lem (take n r.devices) y, seen_known (take n r.devices), seen_old (take n r.devices), all_of, part_get r.n r.devices (j - 1) power_up (omega (arith, h, l)))
      (call_records ds j own (rw l at (sym f ∙ z)))

  pub access_found : (c : ℕ) (sent room : List ℕ) (first : ℕ) → first ≡ access_by_arguments n c (length sent) (length room) → found first (all_sound ds) (families_below 2 (families ds)) ≡ number_on r (access c sent room)
  unfolding number
  access_found c sent room first e = rw (e, l) (found_rest (chain_refusal (length ds) ∷ size_refusal c (length sent) (length room) ∷ []) (sound_refusal (all_sound ds) ∷ family_refusal (families_below 2 (families ds)) ∷ []))

-- ---- a refused call of any kind
module _ (r : Row) (q : Call) (k : ℕ) (e : k ≡ number_on r q) (z : k ≡ 0 → ⊥) where
  refused_done : record { number = k; row = r } ≡ done_on r q
  unfolding after
  refused_done = rw (← e, ne_eqb k 0 z, take-append-drop r.n r.devices)

  refused_reply : refused_back q ≡ reply_on r q
  unfolding reply
  refused_reply = rw (← e, ne_eqb k 0 z)

-- ---- a call that gives a driver something
module _ (r : Row) (j : ℕ) (st : Step) (own : ℕ) (k : ℕ) (o : own ≡ step_own st) (e : k ≡ call_refusal (records r) j own) where
  give_number : k ≡ number_on r (give j st)
  give_number = e ∙ rw o (sym (give-on (records r) j st))

  pub give_refused : (k ≡ 0 → ⊥) → record { number = k; row = r } ≡ done_on r (give j st)
  give_refused z = refused_done r (give j st) k give_number z

  pub give_done : k ≡ 0 → record { number = 0; row = record { n = r.n; devices = set r.devices (j - 1) (stepped st (get_or r.devices (j - 1) power_up)) } } ≡ done_on r (give j st)
  give_done z =
      let t : number_on r (give j st) ≡ 0 = sym give_number ∙ z in
      let h = in_range (records r) j own (sym e ∙ z) in
      rw (after_zero (give j st) (records r) t, t, part_set r.n r.devices (j - 1) (stepped st) power_up (omega (arith, h)))

-- ---- what a cathode shows, and the answer mark
module _ (r : Row) (j d : ℕ) (font14 font16 : List ℕ) (own : ℕ) (k : ℕ) (o : own ≡ question_own (segments d font14 font16)) (e : k ≡ call_refusal (records r) j own) where
  abbrev q : Question
  q = segments d font14 font16

  abbrev asked : Device
  asked = get_or r.devices (j - 1) power_up

  ask_number : k ≡ number_on r (ask j q)
  ask_number = e ∙ rw o (sym (ask-on (records r) j q))

  pub show_refused : (k ≡ 0 → ⊥) → record { number = k; pins = replicate 19 0; mark = 0 } ≡ shown_on r j q
  unfolding tabulate
  show_refused z = rw (← ask_number, ← refused_reply r (ask j q) k ask_number z, ne_eqb k 0 z)

  pub show_done : k ≡ 0 → record { number = 0; pins = (segments_of asked d font14 font16).pins; mark = asked.answer_mark } ≡ shown_on r j q
  show_done z =
      let t : number_on r (ask j q) ≡ 0 = sym ask_number ∙ z in
      let h = in_range (records r) j own (sym e ∙ z) in
      let same : asked ≡ record_of (records r) j = part_get r.n r.devices (j - 1) power_up (omega (arith, h)) in
      rw (reply_zero (ask j q) (records r) t, t, same)

-- ---- an access
module _ (r : Row) (c : ℕ) (sent room : List ℕ) (k : ℕ) (e : k ≡ number_on r (access c sent room)) where
  abbrev n : ℕ
  n = length (records r)

  abbrev words : List ℕ
  words = words_to r.devices (replicate 16 0) n

  pub access_refused : (k ≡ 0 → ⊥) → (record { number = k; row = r } ≡ done_on r (access c sent room)) × (room ≡ reply_on r (access c sent room))
  access_refused z = (refused_done r (access c sent room) k e z, refused_reply r (access c sent room) k e z)

  -- the words, and the records that take them, among the sixteen
  part_words : words ≡ words_to (records r) (replicate 16 0) n
  part_words = rw (tabulate_ext n _ _ (λ i h. ap (λ (x : Device). x.shift) (part_get r.n r.devices i power_up h)))

  part_taken : (ws : List ℕ) → taken_to r.devices ws n ≡ taken_to (records r) ws n ++ drop r.n r.devices
  part_taken ws =
      rw (drop-length (records r), append-nil, part_drop r.n r.devices, tabulate_ext n _ _ (λ i h. ap (λ (x : Device). takes x (get_or ws i 0)) (part_get r.n r.devices i power_up h)))

  pub access_done : k ≡ 0
      → (record { number = 0; row = record { n = r.n; devices = taken_to r.devices (words_after words n c sent room) n } } ≡ done_on r (access c sent room))
      × (room_after words n c sent room ≡ reply_on r (access c sent room))
  access_done z =
      let whole = sym (access_whole (records r) c sent room (access_number (records r) c sent room ∙ sym e ∙ z)) in (
        rw (part_taken, part_words) (ap (λ (o : Outcome). record { number = o.number; row = record { n = r.n; devices = o.records ++ drop r.n r.devices } }) whole),
        rw part_words (ap (λ (o : Outcome). o.back) whole),
      )
