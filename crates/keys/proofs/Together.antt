-- A scan of the four groups at once is a scan of each.
-- Assumes nothing.
use Rattle.ground.proofs.Names.{ℕ, ◌-◌, ◌<◌, arith, Bool, true, false, ◌||◌, [], ◌∷◌, ◌≡◌, ap, ap₂, ◌∙◌, ltb, get_or, bit_and, and_le_l, and_mask, and_zero_r, if}
use Rattle.keys.specs.Keys.{groups_of, closed_of, scanned_group, raises, scanned_keys}
use Rattle.keys.specs.PackedKeys.{joined, byte_at, configured, packed, group_at, unpacked, newly_packed, scanned_packed, raises_packed}
use Rattle.keys.specs.declared.Group.{Group}
use Rattle.keys.specs.declared.Keys.{Keys}
use Rattle.keys.specs.declared.Packed.{Packed}
use Rattle.keys.proofs.Bytewise.{and_byte, or_byte, not_byte, byte_small, joined_byte, some_byte}

-- a byte masked by a whole one or none
masked : (t : Bool) (x : ℕ) → x < 256 → bit_and x (if t 255 0) ≡ if t x 0
masked true x h = and_mask x 8 ∙ omega arith
masked false x h = and_zero_r x

mask_small : (t : Bool) → if t 255 0 < 256
mask_small true = omega arith
mask_small false = omega arith

-- keys of groups not configured count as open
closed_byte : (ports x j : ℕ) → j < 4 → byte_at j (bit_and x (configured ports)) ≡ closed_of ports j (byte_at j x)
closed_byte ports x j h =
    and_byte j x (configured ports)
    ∙ ap (bit_and (byte_at j x)) (joined_byte (λ j. closed_of ports j 255) (λ j l. mask_small (ltb j (groups_of ports))) j h)
    ∙ masked (ltb j (groups_of ports)) (byte_at j x) (byte_small j x)

-- packed registers, scanned, group by group
module _ (p : Packed) (closed : ℕ) (h : p.held < 4294967296) where
  scanned_byte : (j : ℕ) → j < 4 → group_at (scanned_packed p closed) j ≡ scanned_group (group_at p j) (byte_at j closed)
  scanned_byte j l = simp (and_byte, or_byte, not_byte p.held h j l)

  raises_byte : closed < 4294967296
      → raises_packed p closed
      ≡ (raises (group_at p 0) (byte_at 0 closed)
      || raises (group_at p 1) (byte_at 1 closed)
      || raises (group_at p 2) (byte_at 2 closed)
      || raises (group_at p 3) (byte_at 3 closed))
  raises_byte s =
      let flipped = not_byte p.held h in
      some_byte (bit_and (newly_packed p closed) p.mask)
      (omega (arith, and_le_l (newly_packed p closed) p.mask, and_le_l (bit_and closed p.pressed) (4294967295 - p.held), and_le_l closed p.pressed))
      ∙ simp (and_byte, flipped 0 (omega arith), flipped 1 (omega arith), flipped 2 (omega arith), flipped 3 (omega arith))

-- the registers of a group are bytes
pub record Bytes (g : Group) : Type 0 where
  pub mask : g.mask < 256
  pub debounced : g.debounced < 256
  pub pressed : g.pressed < 256
  pub held : g.held < 256

-- four values by their places
abbrev pub four : {A : Type 0} → A → A → A → A → ℕ → A
four a b c d j = get_or (a ∷ b ∷ c ∷ []) j d

module _ (k : Keys) (ports a b c d : ℕ)
    (bytes : (j : ℕ) → j < 4 → Bytes (four k.a k.b k.c k.d j))
    (keys : (j : ℕ) → j < 4 → four a b c d j < 256) where
  abbrev group : ℕ → Group
  group = four k.a k.b k.c k.d

  abbrev closed : ℕ
  closed = bit_and (joined a b c d) (configured ports)

  abbrev closed_at : ℕ → ℕ
  closed_at j = closed_of ports j (four a b c d j)

  group_before : (j : ℕ) → j < 4 → group_at (packed k) j ≡ group j
  group_before j l =
      simp (
        joined_byte (λ j. (group j).mask) (λ j l. (bytes j l).mask) j l,
        joined_byte (λ j. (group j).debounced) (λ j l. (bytes j l).debounced) j l,
        joined_byte (λ j. (group j).pressed) (λ j l. (bytes j l).pressed) j l,
        joined_byte (λ j. (group j).held) (λ j l. (bytes j l).held) j l,
      )

  closed_at_lem : (j : ℕ) → j < 4 → byte_at j closed ≡ closed_at j
  closed_at_lem j l = closed_byte ports (joined a b c d) j l ∙ ap (closed_of ports j) (joined_byte (four a b c d) keys j l)

  held_small : (packed k).held < 4294967296
  held_small = omega (arith, (bytes 0 (omega arith)).held, (bytes 1 (omega arith)).held, (bytes 2 (omega arith)).held, (bytes 3 (omega arith)).held)

  closed_small : closed < 4294967296
  closed_small = omega (arith, and_le_l (joined a b c d) (configured ports), keys 0 (omega arith), keys 1 (omega arith), keys 2 (omega arith), keys 3 (omega arith))

  group_after : (j : ℕ) → j < 4 → group_at (scanned_packed (packed k) closed) j ≡ scanned_group (group j) (closed_at j)
  group_after j l = scanned_byte (packed k) closed held_small j l ∙ ap₂ scanned_group (group_before j l) (closed_at_lem j l)

  raises_at : (j : ℕ) → j < 4 → raises (group_at (packed k) j) (byte_at j closed) ≡ raises (group j) (closed_at j)
  raises_at j l = ap₂ raises (group_before j l) (closed_at_lem j l)

  pub scanned_packed_lem : unpacked (scanned_packed (packed k) closed) (if (raises_packed (packed k) closed) 1 k.interrupt) ≡ scanned_keys k ports a b c d
  scanned_packed_lem =
      cc (
        group_after 0 (omega arith),
        group_after 1 (omega arith),
        group_after 2 (omega arith),
        group_after 3 (omega arith),
        raises_byte (packed k) closed held_small closed_small,
        raises_at 0 (omega arith),
        raises_at 1 (omega arith),
        raises_at 2 (omega arith),
        raises_at 3 (omega arith),
      )
