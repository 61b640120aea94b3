-- An accepted list, given to the chain access by access, ends in the wanted planes: each driver is as it would be alone (demand 3).
-- Assumes nothing.
use Rattle.ground.proofs.Names.{ℕ, zero, suc, ◌+◌, ◌*◌, ◌-◌, ◌/◌, ◌%◌, ◌<◌, ◌≤◌, mod-eq_of_lt, div-add-mod', suc-mul, arith, Bool, true, false, ◌&&◌, ◌||◌, List, [], ◌∷◌, ◌++◌, ◌≡◌, refl, sym, ap, ◌∙◌, eqb, ltb, length, get_or, take, drop, length-drop, get_or-take, get_or-drop, length-take-le, eqb-true, eq-eqb, ltb-true, lt-ltb, le-ltb, if, tabulate, and_left, and_right}
use Rattle.wire.specs.Line.{word_bytes}
use Rattle.wire.proofs.BitLaws.{value_bits}
use Rattle.wire.proofs.LineLaws.{string_bytes, length_word_bytes}
use Rattle.wire.proofs.WholeLaws.{word_string}
use Rattle.controls.specs.declared.Config.{Config}
use Rattle.device.specs.Sound.{sound_of}
use Rattle.device.specs.Taken.{taken}
use Rattle.device.specs.Families.{takes, families, sound_record}
use Rattle.device.proofs.Families.{old_takes, takes_family}
use Rattle.device.specs.Table15.{after_words}
use Rattle.device.specs.declared.Device.{Device}
use Rattle.calls.specs.Calls.{Call, access}
use Rattle.calls.specs.CallRefusals.{families_below}
use Rattle.calls.specs.Isolation.{accepted, own_word, lone_step, lone_after, lone, Full, AllFull}
use Rattle.calls.proofs.Records.{sound_all}
use Rattle.calls.proofs.Alone.{isolated}
use Rattle.plans.specs.Words.{digit_write, keeps, allowed_by, every}
use Rattle.plans.specs.Lists.{record_at}
use Rattle.redraw.specs.Sent.{bytes_at, accesses_of, Sent}
use Rattle.plans.proofs.Act.{or_cases}
use Rattle.redraw.proofs.CallLaws.{below_more}

-- an allowed word has sixteen bits
allowed_small : (c : Config) (w : ℕ) → allowed_by c w ≡ true → w < 65536
allowed_small c w h =
    or_cases (eqb w 0 || digit_write w) (eqb (w / 256) 4 && keeps c (w % 256)) h
    (λ g. or_cases (eqb w 0) (digit_write w) g (λ e. let q = eqb-true w 0 e in omega arith)
    (λ f. or_cases (eqb (w / 4096) 2 || eqb (w / 4096) 4) (eqb (w / 4096) 6) f
    (λ e. or_cases (eqb (w / 4096) 2) (eqb (w / 4096) 4) e
    (λ d. let q = eqb-true (w / 4096) 2 d in omega arith) (λ d. let q = eqb-true (w / 4096) 4 d in omega arith))
    (λ d. let q = eqb-true (w / 4096) 6 d in omega arith)))
    (λ g. let q = eqb-true (w / 256) 4 (and_left (eqb (w / 256) 4) _ g) in omega arith)

every_last : (f : ℕ → Bool) (ws : List ℕ) (w : ℕ) → every f (ws ++ w ∷ []) ≡ true → (every f ws ≡ true) × (f w ≡ true)
unfolding every
every_last f [] w e = (refl, and_left (f w) true e)
every_last f (v ∷ ws) w e =
    let t = every_last f ws w (and_right (f v) (every f (ws ++ w ∷ [])) e) in
    (rw (and_left (f v) (every f (ws ++ w ∷ [])) e) t.0, t.1)

-- a driver of the old family keeps it
words_family : (ws : List ℕ) (d : Device) → eqb d.family 1 ≡ false → eqb (after_words d ws).family 1 ≡ false
words_family [] d e = e
words_family (w ∷ ws) d e =
    let k : (taken d w).family ≡ d.family = ap (λ (x : Device). x.family) (sym (old_takes d w e)) ∙ takes_family d w in
    words_family ws (taken d w) (rw k e)

-- words and calls one after the other
after_last : (ws : List ℕ) (w : ℕ) (d : Device) → after_words d (ws ++ w ∷ []) ≡ taken (after_words d ws) w
after_last [] w d = refl
after_last (v ∷ ws) w d = after_last ws w (taken d v)

lone_last : (n : ℕ) (fs : List ℕ) (i : ℕ) (qs : List Call) (q : Call) (d : Device) → lone n fs i (qs ++ q ∷ []) d ≡ lone_after n fs i q (lone n fs i qs d)
unfolding lone
lone_last n fs i [] q d = refl
lone_last n fs i (p ∷ qs) q d = lone_last n fs i qs q (lone_after n fs i p d)

full_last : (n : ℕ) (fs : List ℕ) (qs : List Call) (q : Call) → AllFull n fs qs → Full n fs q → AllFull n fs (qs ++ q ∷ [])
unfolding AllFull
full_last n fs [] q f g = (g, tt)
full_last n fs (p ∷ qs) q f g = (f.0, full_last n fs qs q f.1 g)

-- an access with 16n clocks, 2n bytes and room for as many is accepted
access_accepted : (n : ℕ) (fs sent room : List ℕ) → families_below 2 fs ≡ true → 0 < n → n ≤ 16 → 2 * n ≤ length sent → 2 * n ≤ length room → accepted n fs (access (16 * n) sent room) ≡ true
access_accepted n fs sent room k h g s r =
    rw (
      lt-ltb 0 n h,
      lt-ltb n 17 (omega arith),
      le-ltb 4096 (16 * n) (omega arith),
      le-ltb (length sent) ((16 * n + 7) / 8) (omega arith),
      le-ltb (length room) ((16 * n + 7) / 8) (omega arith),
      k,
    )

-- a driver's own word among the bytes of some words
own_of_bytes : (n i : ℕ) (ws : List ℕ) → length ws ≡ n → i < n → get_or ws i 0 < 65536 → own_word n (suc i) (word_bytes ws) ≡ get_or ws i 0
own_of_bytes n i ws e h s =
    let k : n - suc i ≡ length ws - 1 - i = omega arith in
    rw (k, ← string_bytes) (word_string ws i (omega arith) ∙ value_bits 16 (get_or ws i 0) ∙ mod-eq_of_lt s)

module _ (n i : ℕ) (fs list room : List ℕ) (c : Config) (d : Device) (known : families_below 2 fs ≡ true) (old : eqb d.family 1 ≡ false) (some : 0 < n) (most : n ≤ 16) (h : i < n) (r : 2 * n ≤ length room) where
  word : ℕ → ℕ
  word a = get_or list (a * n + i) 0

  call : ℕ → Call
  call a = access (16 * n) (bytes_at n list a) room

  module _ (a : ℕ) (l : a * n + n ≤ length list) where
    part_length : length (take n (drop (a * n) list)) ≡ n
    part_length = length-take-le n (drop (a * n) list) (rw length-drop (omega arith))

    call_accepted : accepted n fs (call a) ≡ true
    unfolding call
    call_accepted = access_accepted n fs (bytes_at n list a) room known some most (rw (length_word_bytes, part_length) (omega arith)) r

    call_word : word a < 65536 → own_word n (suc i) (bytes_at n list a) ≡ word a
    unfolding word
    call_word s =
        let e : get_or (take n (drop (a * n) list)) i 0 ≡ get_or list (a * n + i) 0 = get_or-take n (drop (a * n) list) i 0 h ∙ get_or-drop (a * n) list i 0 in
        own_of_bytes n i (take n (drop (a * n) list)) part_length h (rw e s) ∙ e

    call_lone : word a < 65536 → (x : Device) → eqb x.family 1 ≡ false → lone_after n fs (suc i) (call a) x ≡ taken x (word a)
    unfolding call
    call_lone s x e =
        ap (λ (b : Bool). if b (lone_step n (suc i) (call a) x) x) call_accepted ∙ ap (takes x) (call_word s) ∙ old_takes x (word a) e

  lone_all : (k : ℕ) → k * n ≤ length list → every (allowed_by c) (tabulate k word) ≡ true → lone n fs (suc i) (tabulate k call) d ≡ after_words d (tabulate k word)
  unfolding tabulate lone
  lone_all zero l e = refl
  lone_all (suc k) l e =
      let p = every_last (allowed_by c) (tabulate k word) (word k) e in
      let m : k * n + n ≤ length list = omega (arith, suc-mul k n) in
      lone_last n fs (suc i) (tabulate k call) (call k) d
      ∙ ap (lone_after n fs (suc i) (call k)) (lone_all k (omega arith) p.0)
      ∙ call_lone k m (allowed_small c (word k) p.1) (after_words d (tabulate k word)) (words_family (tabulate k word) d old)
      ∙ sym (after_last (tabulate k word) (word k) d)

-- the drivers are of the old family
family_zero : (ds : List Device) → families_below 1 (families ds) ≡ true → (j : ℕ) → (record_at ds j).family ≡ 0
unfolding families_below
family_zero [] e j = refl
family_zero (d ∷ ds) e zero = omega (arith, ltb-true d.family 1 (and_left (ltb d.family 1) (families_below 1 (families ds)) e))
family_zero (d ∷ ds) e (suc j) = family_zero ds (and_right (ltb d.family 1) (families_below 1 (families ds)) e) j

old_sound : (d : Device) → d.family ≡ 0 → sound_of d ≡ true → sound_record d ≡ true
unfolding sound_record
old_sound d z s = rw (eq-eqb d.family 0 z) s

full_all : (n : ℕ) (fs : List ℕ) (f : ℕ → List ℕ) (room : List ℕ) (k : ℕ) → AllFull n fs (tabulate k (λ a. access (16 * n) (f a) room))
unfolding tabulate AllFull
full_all n fs f room zero = tt
full_all n fs f room (suc k) = full_last n fs (tabulate k (λ a. access (16 * n) (f a) room)) (access (16 * n) (f k) room) (full_all n fs f room k) (λ e. refl)

pub on_wire : Sent
unfolding word call
on_wire ds wanted list room g low most r a i h =
    let n = length ds in
    let d = record_at ds i in
    let old_at = family_zero ds low in
    let k = length list / n in
    let l : k * n ≤ length list = omega (arith, div-add-mod' (length list) n) in
    let e : suc i - 1 ≡ i = omega arith in
    let alone = (isolated (accesses_of n list room) ds (sound_all ds (λ j b. old_sound (record_at ds j) (old_at j) (g.sound j b))) (full_all n (families ds) (bytes_at n list) room k) (suc i) (omega arith) h).same_record in
    let own = lone_all n i (families ds) list room d.registers.config d (below_more (families ds) low) (rw (old_at i)) g.some most h r k l (a.each i h).alone in
    ap (λ (x : Device). x.registers.planes) ((rw e at alone) ∙ own) ∙ (a.each i h).ends
