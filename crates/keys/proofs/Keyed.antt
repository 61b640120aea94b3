-- What a scan does, key by key and group by group.
-- Assumes nothing.
use Rattle.ground.proofs.Names.{ℕ, ◌-◌, ◌/◌, ◌%◌, ◌<◌, zero-div, arith, Bool, true, false, ◌&&◌, or-true, ◌≡◌, refl, sym, ◌∙◌, eqb, ltb, get_or, bit_and, and_le_l, eqb-true, eq-eqb, ne_eqb, ltb-true, ltb-false, if, bit, all_at, and_bit, or_bit, not_bit, some_bit}
use Rattle.ground.specs.Choice.{some}
use Rattle.words.specs.declared.KeyGroup.{KeyGroup}
use Rattle.words.specs.declared.KeyGroup.TheVariants.{A, B, C, D}
use Rattle.keys.specs.Keys.{group_of, with_group, with_interrupt, sound_keys, mask_written, debounced_read, groups_of, closed_of, newly, scanned_group, raises, scanned_keys}
use Rattle.keys.specs.KeyByKey.{table32, place_of, keys_of, KeyScanned, SameKeys, SamePress, KeyByKey}
use Rattle.keys.specs.declared.Group.{Group}
use Rattle.keys.specs.declared.Keys.{Keys}

-- what holds of each of the four groups
pub each : (P : KeyGroup → Type 0) → P A → P B → P C → P D → (g : KeyGroup) → P g
each P a b c d A = a
each P a b c d B = b
each P a b c d C = c
each P a b c d D = d

key_scanned : (g : Group) (closed k : ℕ) → k < 8 → g.held < 256 → KeyScanned g closed k
key_scanned g closed k hk hh =
    record {
      new = simp (and_bit, not_bit 8 k g.held hk hh);
      debounced = or_bit k g.debounced (newly g closed);
      pressed = refl;
      mask = refl;
      held = simp (and_bit, or_bit);
    }

closed_key : (ports group keys k : ℕ) → bit k (closed_of ports group keys) ≡ (ltb group (groups_of ports) && bit k keys)
closed_key ports group keys k = go (ltb group (groups_of ports)) where
  go : (b : Bool) → bit k (if b keys 0) ≡ (b && bit k keys)
  go true = refl
  go false = rw zero-div

raised_key : (g : Group) (closed : ℕ) → closed < 256 → raises g closed ≡ some 8 (λ k. bit k (newly g closed) && bit k g.mask)
raised_key g closed h =
    some_bit 8 (bit_and (newly g closed) g.mask)
    (omega (arith, and_le_l (newly g closed) g.mask, and_le_l (bit_and closed g.pressed) (255 - g.held), and_le_l closed g.pressed))
    ∙ simp and_bit

grouped : (ports : ℕ) → ports < 256 → groups_of ports ≡ get_or table32 (ports / 32) 0
grouped ports h = eqb-true _ _ (all_at (λ p. eqb (groups_of p) (get_or table32 (p / 32) 0)) 256 refl ports h)

each_group : (k : Keys) (ports a b c d : ℕ) (g : KeyGroup)
    → group_of (scanned_keys k ports a b c d) g ≡ scanned_group (group_of k g) (closed_of ports (place_of g) (keys_of a b c d g))
each_group k ports a b c d = each _ refl refl refl refl

raised_by : (k : Keys) (ports a b c d : ℕ) (g : KeyGroup)
    → raises (group_of k g) (closed_of ports (place_of g) (keys_of a b c d g)) ≡ true → (scanned_keys k ports a b c d).interrupt ≡ 1
raised_by k ports a b c d = each _ (λ e. simp e) (λ e. simp (e, or-true)) (λ e. simp (e, or-true)) (λ e. simp (e, or-true))

not_raised : (k : Keys) (ports a b c d : ℕ)
    → ((g : KeyGroup) → raises (group_of k g) (closed_of ports (place_of g) (keys_of a b c d g)) ≡ false)
    → (scanned_keys k ports a b c d).interrupt ≡ k.interrupt
not_raised k ports a b c d e = rw (e A, e B, e C, e D)

-- one group replaced
replaced : (k : Keys) (x : Group) (g h : KeyGroup) → group_of (with_group k g x) h ≡ if (eqb (place_of g) (place_of h)) x (group_of k h)
replaced k x = each _ (each _ refl refl refl refl) (each _ refl refl refl refl) (each _ refl refl refl refl) (each _ refl refl refl refl)

own_group : (k : Keys) (g : KeyGroup) (x : Group) → group_of (with_group k g x) g ≡ x
own_group k g x = replaced k x g g ∙ rw (eq-eqb (place_of g) (place_of g) refl)

other_group : (k : Keys) (g h : KeyGroup) (x : Group) → eqb (place_of g) (place_of h) ≡ false → group_of (with_group k g x) h ≡ group_of k h
other_group k g h x e = replaced k x g h ∙ rw e

mask_alone : (k : Keys) (g : KeyGroup) (v : ℕ) → SameKeys (group_of k g) (group_of (mask_written k g v) g)
mask_alone k g v = rw own_group (record { debounced = refl; pressed = refl; held = refl })

mask_interrupt : (k : Keys) (g : KeyGroup) (v : ℕ) → (mask_written k g v).interrupt ≡ k.interrupt
mask_interrupt k g v = each (λ h. (mask_written k h v).interrupt ≡ k.interrupt) refl refl refl refl g

read_alone : (k : Keys) (g : KeyGroup) → SamePress (group_of k g) (group_of (debounced_read k g) g)
read_alone k g = rw own_group (record { mask = refl; pressed = refl; held = refl })

one_bit_lem : (k : Keys) → sound_keys k ≡ eqb (k.interrupt % 2) k.interrupt
one_bit_lem k = go (ltb k.interrupt 2) refl
  where
    go : (b : Bool) → ltb k.interrupt 2 ≡ b → b ≡ eqb (k.interrupt % 2) k.interrupt
    go true e = sym (eq-eqb (k.interrupt % 2) k.interrupt (omega (arith, ltb-true k.interrupt 2 e)))
    go false e = sym (ne_eqb (k.interrupt % 2) k.interrupt (λ q. omega (arith, ltb-false k.interrupt 2 e)))

read_interrupt : (k : Keys) (g : KeyGroup) → (debounced_read k g).interrupt ≡ 0
read_interrupt k = each _ refl refl refl refl

read_others : (k : Keys) (g h : KeyGroup) → eqb (place_of g) (place_of h) ≡ false → group_of (debounced_read k g) h ≡ group_of k h
read_others k g h e = other_group (with_interrupt k 0) g h _ e ∙ each (λ h. group_of (with_interrupt k 0) h ≡ group_of k h) refl refl refl refl h

pub key_by_key : KeyByKey
key_by_key =
    record {
      groups = grouped;
      closed = closed_key;
      scanned = key_scanned;
      raised = raised_key;
      each_group = each_group;
      raised_by = raised_by;
      not_raised = not_raised;
      masked = λ k g v. rw own_group;
      mask_alone = mask_alone;
      mask_interrupt = mask_interrupt;
      read_cleared = λ k g. rw own_group;
      read_alone = read_alone;
      read_interrupt = read_interrupt;
      others_masked = λ k g h v e. other_group k g h _ e;
      others_read = read_others;
      one_bit = one_bit_lem;
    }
