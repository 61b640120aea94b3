-- The two ways of an access: by whole words, and by one line of bytes.
-- Assumes nothing.
use Rattle.ground.proofs.Names.{ℕ, ◌+◌, ◌-◌, ◌*◌, ◌≤◌, zero-add, arith, List, ◌++◌, ◌≡◌, sym, ◌∙◌, length, take, drop, length-append, drop-append-add, drop-drop, take-append-add, take_at}
use Rattle.refusals.specs.Refusals.{bytes_for}
use Rattle.wire.specs.Bits.{unpack, pack}
use Rattle.wire.specs.Wire.{words, wire, answer, shifted}
use Rattle.wire.specs.Line.{word_bytes}
use Rattle.wire.proofs.BitLaws.{length_unpack, unpack_append}
use Rattle.wire.proofs.ByteLaws.{cut_bytes, clear_front}
use Rattle.wire.proofs.LineLaws.{length_word_bytes, wire_line, answer_from, shifted_from}

module _ (ws sent : List ℕ) (n c : ℕ) (count : length ws ≡ n) (enough : bytes_for c ≤ length sent) where
  -- the old words' bytes, and the sent bytes after them
  abbrev line : List ℕ
  line = word_bytes ws ++ sent

  length_line : length line ≡ 2 * n + length sent
  length_line = rw (length-append, length_word_bytes, count)

  -- over d the words' bytes, and then m sent bytes after them
  line_part : (m : ℕ) (d old all : List ℕ) → old ≡ word_bytes ws ++ drop (2 * n) d → all ≡ take (2 * n) old ++ take m sent ++ drop (2 * n + m) old
      → all ≡ take (2 * n + m) line ++ drop (2 * n + m) d
  line_part m d old all p q =
      let l : length (word_bytes ws) ≡ 2 * n = length_word_bytes ws ∙ rw count in
      q ∙ rw (p, take_at (word_bytes ws) (drop (2 * n) d) (2 * n) l, ← l, drop-append-add, drop-drop, take-append-add)

  -- at least 16 clocks for each driver: the new words are bits that were sent
  pub sent_words : 16 * n ≤ c → shifted ws sent c ≡ words n (drop (c - 16 * n) (unpack sent))
  sent_words h =
      let e : length (unpack (word_bytes ws)) + (c - 16 * n) ≡ c = rw (length_unpack, length_word_bytes) (omega arith) in
      let d = rw e at (drop-append-add (unpack (word_bytes ws)) (unpack sent) (c - 16 * n)) in
      shifted_from ws sent line c (wire_line ws sent c) (omega (arith, length_line)) ∙ rw (count, unpack_append, d)

  -- and the answer is the old words' bytes, with sent bytes after them
  pub whole_answer : 16 * n ≤ c → (room old all : List ℕ) → old ≡ word_bytes ws ++ drop (2 * n) room
      → all ≡ take (2 * n) old ++ take (bytes_for c - 2 * n) sent ++ drop (2 * n + (bytes_for c - 2 * n)) old
      → pack (take c (unpack all)) ++ drop (bytes_for c) all ≡ answer ws sent c ++ drop (bytes_for c) room
  whole_answer h room old all p q =
      let m : 2 * n + (bytes_for c - 2 * n) ≡ bytes_for c = omega arith in
      rw (line_part (bytes_for c - 2 * n) room old all p q, m, answer_from ws sent line c (wire_line ws sent c))
      (clear_front c line (drop (bytes_for c) room) (omega (arith, length_line)))

  -- fewer clocks: a local row that begins as the line gives both
  module _ (zeros old all : List ℕ) (p : old ≡ word_bytes ws ++ drop (2 * n) zeros) (q : all ≡ take (2 * n) old ++ take (bytes_for c) sent ++ drop (2 * n + bytes_for c) old) where
    begins : wire ws sent c ≡ take (c + 16 * length ws) (unpack all)
    begins =
        wire_line ws sent c
        ∙ sym (rw (line_part (bytes_for c) zeros old all p q) (cut_bytes (2 * n + bytes_for c) (c + 16 * length ws) line _ (omega (arith, length_line)) (omega arith)))

    pub line_words : c + 16 * n ≤ 8 * length all → shifted ws sent c ≡ words n (drop c (unpack all))
    line_words h = shifted_from ws sent all c begins (omega arith) ∙ rw count

    pub line_answer : bytes_for c ≤ length all → (room first : List ℕ) → first ≡ take 0 room ++ take (bytes_for c) all ++ drop (0 + bytes_for c) room
        → pack (take c (unpack first)) ++ drop (bytes_for c) first ≡ answer ws sent c ++ drop (bytes_for c) room
    line_answer h room first e = rw (e, zero-add, answer_from ws sent all c begins) (clear_front c all (drop (bytes_for c) room) h)
