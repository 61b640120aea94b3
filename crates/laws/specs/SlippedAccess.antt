-- Believed: document 02, request 12: what an accepted access of at least 16n clocks leaves and answers, whatever clocks were lost or doubled before it.
-- Assumes nothing.
use Rattle.std.specs.Prelude.{ℕ, ◌-◌, ◌*◌, ◌≤◌, true, List, [], ◌∷◌, ◌++◌, map, ◌≡◌, length, take, drop, get_or, replicate}
use Rattle.ground.specs.Lists.{Agree}
use Rattle.refusals.specs.Refusals.{bytes_for}
use Rattle.wire.specs.Bits.{unpack, word_at}
use Rattle.wire.specs.Wire.{string}
use Rattle.device.specs.PowerUp.{power_up}
use Rattle.device.specs.Record.{with_shift, with_mark}
use Rattle.device.specs.Families.{takes, families}
use Rattle.device.specs.declared.Device.{Device}
use Rattle.calls.specs.Calls.{Call, access}
use Rattle.calls.specs.CallRefusals.{all_sound}
use Rattle.calls.specs.Served.{record_of, shift_words}
use Rattle.calls.specs.Outcome.{after, reply}
use Rattle.calls.specs.CallLists.{after_all}
use Rattle.calls.specs.Isolation.{accepted}
use Rattle.calls.specs.NextAccess.{word_taken}
use Rattle.calls.specs.AnswerMark.{marks}

-- an accepted access of at least 16 clocks for each of n drivers of these families
pub record Whole (n : ℕ) (fs : List ℕ) (c : ℕ) (sent room : List ℕ) : Type 0 where
  pub served : accepted n fs (access c sent room) ≡ true
  pub clocks : 16 * n ≤ c

-- driver i's word among the last 16n of the c bits sent: the first is driver n's, the last driver 1's
abbrev pub last_word : ℕ → ℕ → ℕ → List ℕ → ℕ
last_word n i c sent = word_at (drop (c - 16 * n) (take c (unpack sent))) (n - i)

-- two records alike but for shift word and answer mark: given those of the second, the first is the second
abbrev pub Alike : Device → Device → Type 0
Alike d e = with_mark (with_shift d e.shift) e.answer_mark ≡ e

-- two chains of as many records, alike record by record
unfoldable pub AllAlike : List Device → List Device → Type 0
AllAlike [] [] = Unit {0}
AllAlike [] (e ∷ es) = ⊥
AllAlike (d ∷ ds) [] = ⊥
AllAlike (d ∷ ds) (e ∷ es) = Alike d e × AllAlike ds es

-- a record with the shift word 0 and the answer mark cleared
abbrev pub shift_cleared : Device → Device
shift_cleared d = with_mark (with_shift d 0) 0

-- for every chain of sound records
pub record SlippedAccess : Type 0 where
  -- "gives every driver a word fixed by the last 16n bits sent alone, whatever accesses came before"
  pub fixed_word : (ds : List Device) (qs : List Call) (c : ℕ) (sent room : List ℕ) → all_sound ds ≡ true → Whole (length ds) (families ds) c sent room
      → (i : ℕ) → 1 ≤ i → i ≤ length ds
      → record_of (after_all (qs ++ access c sent room ∷ []) ds) i ≡ takes (record_of (after_all qs ds) i) (last_word (length ds) i c sent)
  -- so on two chains of as many drivers, after any calls, driver i takes the same word
  pub same_word : (ds es : List Device) (ps qs : List Call) (c : ℕ) (sent room : List ℕ) → length ds ≡ length es → Whole (length ds) (families ds) c sent room
      → (i : ℕ) → 1 ≤ i → i ≤ length ds
      → word_taken (after_all ps ds) c sent i ≡ word_taken (after_all qs es) c sent i
  -- "chains alike but for shift words and answer marks are wholly alike after the same such access"
  pub wholly_alike : (ds es : List Device) (c : ℕ) (sent room : List ℕ) → all_sound ds ≡ true → all_sound es ≡ true → AllAlike ds es
      → Whole (length ds) (families ds) c sent room
      → after (access c sent room) ds ≡ after (access c sent room) es
  -- "its answers differ at most in their first 16n bits": all later bits of the lent bytes are equal
  pub later_bits : (ds es : List Device) (c : ℕ) (sent room : List ℕ) → all_sound ds ≡ true → all_sound es ≡ true → families ds ≡ families es
      → Whole (length ds) (families ds) c sent room
      → drop (16 * length ds) (unpack (reply (access c sent room) ds)) ≡ drop (16 * length ds) (unpack (reply (access c sent room) es))
  -- those first 16n bits are the chain's old string, and the lent bytes after the answer stay
  pub first_bits : (ds : List Device) (c : ℕ) (sent room : List ℕ) → all_sound ds ≡ true → Whole (length ds) (families ds) c sent room
      → take (16 * length ds) (unpack (reply (access c sent room) ds)) ≡ string (shift_words ds)
  pub bytes_after : (ds : List Device) (c : ℕ) (sent room : List ℕ) → all_sound ds ≡ true → Whole (length ds) (families ds) c sent room
      → drop (bytes_for c) (reply (access c sent room) ds) ≡ drop (bytes_for c) room
  -- so a chain after such an access is the chain with shift words 0 and marks cleared, after the same access
  pub as_cleared : (ds : List Device) (c : ℕ) (sent room : List ℕ) → all_sound ds ≡ true → Whole (length ds) (families ds) c sent room
      → after (access c sent room) ds ≡ after (access c sent room) (map shift_cleared ds)
  pub cleared_alike : (ds : List Device) → AllAlike ds (map shift_cleared ds)
  pub cleared_words : (ds : List Device) → shift_words (map shift_cleared ds) ≡ replicate (length ds) 0
  pub cleared_marks : (ds : List Device) → marks (map shift_cleared ds) ≡ replicate (length ds) 0

-- two drivers at power-up after accesses, each with its clocks and bytes
abbrev pub after_bits : List (ℕ × List ℕ) → List Device
after_bits sents = after_all (map (λ (s : ℕ × List ℕ). access s.0 s.1 (replicate 5 0)) sents) (power_up ∷ power_up ∷ [])

-- an access that leaves 0401 in both shift words
abbrev pub leave_shutdown : ℕ × List ℕ
leave_shutdown = (32, 0x04 ∷ 0x01 ∷ 0x04 ∷ 0x01 ∷ [])

-- P0 of digit 0 of driver 2
abbrev pub second_digit : List Device → ℕ
second_digit ds = get_or (record_of ds 2).registers.planes.p0 0 0

-- what a slip does before it is mended
abbrev pub slips : List (List ℕ × List ℕ)
slips =
    -- with one clock fewer than 16n an old bit, D0 of driver 1, is left in driver 2's word
    (word_taken (after_bits []) 31 (0 ∷ 0 ∷ 0 ∷ 0 ∷ []) 2 ∷ word_taken (after_bits (leave_shutdown ∷ [])) 31 (0 ∷ 0 ∷ 0 ∷ 0 ∷ []) 2 ∷ [], 0 ∷ 0x8000 ∷ [])
    -- 2007 and 2005 sent, the tenth clock lost: driver 2 takes a read, driver 1 its own word
    ∷ (word_taken (after_bits (leave_shutdown ∷ [])) 31 (0x20 ∷ 0x0E ∷ 0x40 ∷ 0x0A ∷ []) 2 ∷ word_taken (after_bits []) 31 (0x20 ∷ 0x0E ∷ 0x40 ∷ 0x0A ∷ []) 1 ∷ [], 0x9007 ∷ 0x2005 ∷ [])
    -- 1003 and the no-op sent, the clock after 1003 doubled: driver 2 takes 2006, and a whole access of no-ops doesn't take it back
    ∷ (second_digit (after_bits ((33, 0x10 ∷ 0x03 ∷ 0 ∷ 0 ∷ 0 ∷ []) ∷ [])) ∷ second_digit (after_bits ((33, 0x10 ∷ 0x03 ∷ 0 ∷ 0 ∷ 0 ∷ []) ∷ (32, 0 ∷ 0 ∷ 0 ∷ 0 ∷ []) ∷ [])) ∷ [], 6 ∷ 6 ∷ [])
    ∷ []

-- they agree; and an access of a clock more than 16n, of spare room, is one that the laws speak of
pub record SlipExamples : Type 0 where
  pub slipped : Agree slips
  pub whole : Whole 2 (0 ∷ 1 ∷ []) 33 (replicate 5 0x55) (replicate 6 0)
