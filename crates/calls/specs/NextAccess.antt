-- Believed: demand 2: a read's answer comes out in the next accepted access that has at least 16 clocks for each driver, never in its own.
-- Assumes nothing.
use Rattle.std.specs.Prelude.{ℕ, ◌-◌, ◌*◌, ◌/◌, ◌%◌, ◌≤◌, true, false, List, [], ◌∷◌, ◌≡◌, length, get_or}
use Rattle.ground.specs.Choice.{bit}
use Rattle.wire.specs.Bits.{bits, value}
use Rattle.wire.specs.Wire.{shifted}
use Rattle.device.specs.Taken.{answer_word}
use Rattle.device.specs.Families.{data_at, families}
use Rattle.device.specs.declared.Device.{Device}
use Rattle.calls.specs.Calls.{Call, access, give, ask, ask_chain}
use Rattle.calls.specs.CallRefusals.{all_sound}
use Rattle.calls.specs.Served.{record_of, shift_words}
use Rattle.calls.specs.Outcome.{number, after, reply}
use Rattle.calls.specs.CallLists.{after_all}
use Rattle.calls.specs.Isolation.{accepted, own_word}

-- no call of a list is an accepted access
unfoldable pub NoAccess : ℕ → List ℕ → List Call → Type 0
NoAccess n fs [] = Unit {0}
NoAccess n fs (access c sent room ∷ qs) = (accepted n fs (access c sent room) ≡ false) × NoAccess n fs qs
NoAccess n fs (give j s ∷ qs) = NoAccess n fs qs
NoAccess n fs (ask j q ∷ qs) = NoAccess n fs qs
NoAccess n fs (ask_chain q ∷ qs) = NoAccess n fs qs

-- the word that driver i takes in an access
abbrev pub word_taken : List Device → ℕ → List ℕ → ℕ → ℕ
word_taken ds c sent i = get_or (shifted (shift_words ds) sent c) (i - 1) 0

-- a read word in an accepted access, and the next accepted one
pub record NextAccess : Type 0 where
  -- the next one, of at least 16 clocks for each driver, answers at driver i's place the read word, with the data that its register had before
  pub comes_next : (ds : List Device) (c : ℕ) (sent room : List ℕ) (qs : List Call) (next : ℕ) (nextSent nextRoom : List ℕ) (i : ℕ)
      → 1 ≤ i → i ≤ length ds
      → number (access c sent room) ds ≡ 0
      → bit 15 (word_taken ds c sent i) ≡ true
      → NoAccess (length ds) (families ds) qs
      → number (access next nextSent nextRoom) (after_all qs (after (access c sent room) ds)) ≡ 0
      → 16 * length ds ≤ next
      → own_word (length ds) i (reply (access next nextSent nextRoom) (after_all qs (after (access c sent room) ds)))
      ≡ value (bits 16 (answer_word (word_taken ds c sent i) (data_at (record_of ds i) (word_taken ds c sent i / 256 % 128))))
  -- an access answers by the shift words before it and the bits sent alone, whatever the registers of the same families hold
  pub not_its_own : (ds es : List Device) (c : ℕ) (sent room : List ℕ)
      → shift_words ds ≡ shift_words es → all_sound ds ≡ all_sound es → families ds ≡ families es
      → reply (access c sent room) ds ≡ reply (access c sent room) es
