-- Believed: document 01, "Keys", key by key: what a scan makes of key k of a group, and what scans and reads make of the four groups.
-- Assumes nothing.
use Rattle.std.specs.Prelude.{ℕ, ◌/◌, ◌%◌, ◌<◌, true, false, not, ◌&&◌, ◌||◌, List, [], ◌∷◌, ◌≡◌, eqb, ltb, get_or}
use Rattle.ground.specs.Choice.{bit, some}
use Rattle.words.specs.declared.KeyGroup.{KeyGroup}
use Rattle.words.specs.declared.KeyGroup.TheVariants.{A, B, C, D}
use Rattle.keys.specs.Keys.{group_of, sound_keys, mask_written, debounced_read, groups_of, closed_of, newly, scanned_group, raises, scanned_keys}
use Rattle.keys.specs.declared.Group.{Group}
use Rattle.keys.specs.declared.Keys.{Keys}

-- Table 32: 0, 8, 16, 24 or 32 keys scanned, in groups of eight, for D7 to D5 of 000, 001, 010, 011 and 1XX
abbrev pub table32 : List ℕ
table32 = 0 ∷ 1 ∷ 2 ∷ 3 ∷ 4 ∷ 4 ∷ 4 ∷ 4 ∷ []

-- groups A to D in order
abbrev pub place_of : KeyGroup → ℕ
place_of A = 0
place_of B = 1
place_of C = 2
place_of D = 3

-- the closed keys of a group, of the four bytes A to D of a scan
abbrev pub keys_of : ℕ → ℕ → ℕ → ℕ → KeyGroup → ℕ
keys_of a b c d g = get_or (a ∷ b ∷ c ∷ d ∷ []) (place_of g) 0

-- key k of a group that is scanned with the keys `closed`
pub record KeyScanned (g : Group) (closed k : ℕ) : Type 0 where
  -- newly debounced: closed now, closed in the scan before, not held
  pub new : bit k (newly g closed) ≡ (bit k closed && bit k g.pressed && not (bit k g.held))
  -- debounced: since it was last read, or newly
  pub debounced : bit k (scanned_group g closed).debounced ≡ (bit k g.debounced || bit k (newly g closed))
  -- pressed: this scan
  pub pressed : bit k (scanned_group g closed).pressed ≡ bit k closed
  -- the mask stays
  pub mask : (scanned_group g closed).mask ≡ g.mask
  -- held: closed, and held before or newly debounced
  pub held : bit k (scanned_group g closed).held ≡ (bit k closed && (bit k g.held || bit k (newly g closed)))

-- the keys of two groups are alike: debounced, pressed and held
pub record SameKeys (g h : Group) : Type 0 where
  pub debounced : h.debounced ≡ g.debounced
  pub pressed : h.pressed ≡ g.pressed
  pub held : h.held ≡ g.held

-- all but the debounced keys of two groups is alike
pub record SamePress (g h : Group) : Type 0 where
  pub mask : h.mask ≡ g.mask
  pub pressed : h.pressed ≡ g.pressed
  pub held : h.held ≡ g.held

-- every key, in every scan and read
pub record KeyByKey : Type 0 where
  -- D7 to D5 of 0x06 give the groups
  pub groups : (ports : ℕ) → ports < 256 → groups_of ports ≡ get_or table32 (ports / 32) 0
  -- a key counts as closed where it is and its group is configured
  pub closed : (ports group keys k : ℕ) → bit k (closed_of ports group keys) ≡ (ltb group (groups_of ports) && bit k keys)
  pub scanned : (g : Group) (closed k : ℕ) → k < 8 → g.held < 256 → KeyScanned g closed k
  -- the interrupt: some key is newly debounced and has its mask bit set
  pub raised : (g : Group) (closed : ℕ) → closed < 256 → raises g closed ≡ some 8 (λ k. bit k (newly g closed) && bit k g.mask)
  -- each group is scanned by its own byte, under its own place in the configuration
  pub each_group : (k : Keys) (ports a b c d : ℕ) (g : KeyGroup)
      → group_of (scanned_keys k ports a b c d) g ≡ scanned_group (group_of k g) (closed_of ports (place_of g) (keys_of a b c d g))
  -- and raises the interrupt by its own mask; where none does, it stays
  pub raised_by : (k : Keys) (ports a b c d : ℕ) (g : KeyGroup)
      → raises (group_of k g) (closed_of ports (place_of g) (keys_of a b c d g)) ≡ true → (scanned_keys k ports a b c d).interrupt ≡ 1
  pub not_raised : (k : Keys) (ports a b c d : ℕ)
      → ((g : KeyGroup) → raises (group_of k g) (closed_of ports (place_of g) (keys_of a b c d g)) ≡ false)
      → (scanned_keys k ports a b c d).interrupt ≡ k.interrupt
  -- a mask written is that of its own group, and changes nothing else, the interrupt neither
  pub masked : (k : Keys) (g : KeyGroup) (v : ℕ) → (group_of (mask_written k g v) g).mask ≡ v
  pub mask_alone : (k : Keys) (g : KeyGroup) (v : ℕ) → SameKeys (group_of k g) (group_of (mask_written k g v) g)
  pub mask_interrupt : (k : Keys) (g : KeyGroup) (v : ℕ) → (mask_written k g v).interrupt ≡ k.interrupt
  pub others_masked : (k : Keys) (g h : KeyGroup) (v : ℕ) → eqb (place_of g) (place_of h) ≡ false → group_of (mask_written k g v) h ≡ group_of k h
  -- reading a debounced register clears it, and clears the interrupt; it leaves the rest of the group, and the other groups
  pub read_cleared : (k : Keys) (g : KeyGroup) → (group_of (debounced_read k g) g).debounced ≡ 0
  pub read_interrupt : (k : Keys) (g : KeyGroup) → (debounced_read k g).interrupt ≡ 0
  pub read_alone : (k : Keys) (g : KeyGroup) → SamePress (group_of k g) (group_of (debounced_read k g) g)
  pub others_read : (k : Keys) (g h : KeyGroup) → eqb (place_of g) (place_of h) ≡ false → group_of (debounced_read k g) h ≡ group_of k h
  -- sound: the interrupt is one bit
  pub one_bit : (k : Keys) → sound_keys k ≡ eqb (k.interrupt % 2) k.interrupt
