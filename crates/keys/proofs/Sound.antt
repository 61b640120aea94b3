-- Each step leaves the interrupt one bit.
-- Assumes nothing.
use Rattle.ground.proofs.Names.{ℕ, true, ◌||◌, ◌≡◌, refl, if_small}
use Rattle.words.specs.declared.KeyGroup.{KeyGroup}
use Rattle.keys.specs.Keys.{mask_written, debounced_read, closed_of, raises, scanned_keys, sound_keys}
use Rattle.keys.specs.declared.Keys.{Keys}
use Rattle.keys.proofs.Keyed.{each}

pub masked_sound : (k : Keys) (g : KeyGroup) (v : ℕ) → sound_keys k ≡ true → sound_keys (mask_written k g v) ≡ true
masked_sound k g v e = each (λ g. sound_keys (mask_written k g v) ≡ true) e e e e g

pub read_sound : (k : Keys) (g : KeyGroup) → sound_keys (debounced_read k g) ≡ true
read_sound k = each _ refl refl refl refl

pub scanned_sound : (k : Keys) (ports a b c d : ℕ) → sound_keys k ≡ true → sound_keys (scanned_keys k ports a b c d) ≡ true
scanned_sound k ports a b c d e =
    if_small
    (raises k.a (closed_of ports 0 a)
    || raises k.b (closed_of ports 1 b)
    || raises k.c (closed_of ports 2 c)
    || raises k.d (closed_of ports 3 d))
    1 k.interrupt 2 refl e
