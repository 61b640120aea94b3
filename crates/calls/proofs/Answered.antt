-- What an access answers and leaves at one driver's place.
-- Assumes nothing.
use Rattle.ground.proofs.Names.{ℕ, ◌-◌, ◌*◌, ◌≤◌, arith, List, ◌≡◌, ◌∙◌, length, get_or, drop, length-map, List·getD-map, get_d_tabulate}
use Rattle.refusals.specs.Refusals.{bytes_for}
use Rattle.wire.specs.Bits.{bits, value}
use Rattle.wire.specs.Wire.{answer}
use Rattle.wire.proofs.LineLaws.{length_answer}
use Rattle.wire.proofs.WholeLaws.{whole, word_append}
use Rattle.device.specs.PowerUp.{power_up}
use Rattle.device.specs.Families.{takes}
use Rattle.device.specs.declared.Device.{Device}
use Rattle.calls.specs.Calls.{access}
use Rattle.calls.specs.Served.{record_of, shift_words, served, given_back}
use Rattle.calls.specs.NextAccess.{word_taken}
use Rattle.calls.specs.Isolation.{own_word}

module _ (ds : List Device) (i : ℕ) (h : 1 ≤ i) (g : i ≤ length ds) where
  -- the driver obeys the word that it takes
  pub taken_at : (c : ℕ) (sent room : List ℕ) → record_of (served (access c sent room) ds) i ≡ takes (record_of ds i) (word_taken ds c sent i)
  taken_at c sent room = get_d_tabulate (length ds) _ power_up (i - 1) (omega arith)

  -- with 16 clocks for each driver, it takes its own word of those sent
  pub own_taken : (c : ℕ) (sent : List ℕ) → c ≡ 16 * length ds → bytes_for c ≤ length sent → word_taken ds c sent i ≡ own_word (length ds) i sent
  own_taken c sent e f =
      let ws = shift_words ds in
      let l : length ws ≡ length ds = length-map ds (λ (d : Device). d.shift) in
      let k : length ws - 1 - (i - 1) ≡ length ds - i = omega arith in
      let e' : c ≡ 16 * length ws = omega arith in
      rw e' (rw k at (whole.own_word ws sent (i - 1) (omega arith) (omega arith)))

  -- with at least so many, its old shift word is answered at its place
  pub own_answered : (c : ℕ) (sent room : List ℕ) → 16 * length ds ≤ c → bytes_for c ≤ length sent
      → own_word (length ds) i (given_back (access c sent room) ds) ≡ value (bits 16 (record_of ds i).shift)
  own_answered c sent room e f =
      let ws = shift_words ds in
      let l : length ws ≡ length ds = length-map ds (λ (d : Device). d.shift) in
      let k : length ws - 1 - (i - 1) ≡ length ds - i = omega arith in
      let a : length (answer ws sent c) ≡ bytes_for c = length_answer ws sent c (omega arith) in
      let s : get_or ws (i - 1) 0 ≡ (record_of ds i).shift = List·getD-map (λ (d : Device). d.shift) ds (i - 1) power_up in
      word_append (answer ws sent c) (drop (bytes_for c) room) (length ds - i) (omega arith)
      ∙ (rw (k, s) at (whole.own_answer ws sent c (i - 1) (omega arith) (omega arith) (omega arith)))
