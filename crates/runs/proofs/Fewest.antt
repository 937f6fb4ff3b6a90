-- The chunks that a trace is written with: `WrittenChunks`, `ChunkCount` and `Fewest` of specs/Laws.antt. Assumes nothing.
use Rattle.std.proofs.Common.{◌≡◌, ℕ, zero, suc, ◌+◌, ◌*◌, ◌/◌, ◌%◌, ◌<◌, ◌≤◌, ◌⊎◌, List, [], ◌∷◌, length, get_or, drop, ap, ◌∙◌, inl, inr, arith, length-append, length-drop, drop_of_length-le, drop-drop}
use lib.Seq.{take-length}
use Rattle.chunk.specs.Chunks.{vector_bits, packets_of, packets_in, chunks_in}
use Rattle.chunk.specs.Laws.{reach}
use Rattle.chunk.proofs.Covering.{covers_exactly}
use Rattle.chunk.proofs.Vectors.{span_vector}
use Rattle.block.specs.Types.{rle_type, rle_head, interval_max}
use Rattle.block.specs.Layouts.{interval_in, chunks_of}
use Rattle.block.proofs.RleLaws.{rle_known, rle_facts}
use Rattle.encode.specs.Words.{in_bytes}
use Rattle.encode.proofs.Storing.{length_in_bytes}
use Rattle.runs.specs.Writing.{chunk_from, words_from, word_count}
use Rattle.runs.specs.Laws.{vectors, WrittenChunks, ChunkCount, Fewest}
use Rattle.runs.proofs.Vectors.{chunk_vector, chunk_read}
use Rattle.runs.proofs.ReadBack.{split, drop_bits, within_bits, length_words}

-- two bytes a chunk
length_chunks : (bytes : List ℕ) → length (chunks_in bytes) ≡ length bytes / 2
unfolding chunks_in
length_chunks [] = omega arith
length_chunks (high ∷ []) = omega arith
length_chunks (high ∷ low ∷ bytes) = omega (arith, length_chunks bytes)

pub chunk_count : ChunkCount
chunk_count source begin s =
    let words : List ℕ = words_from (word_count (length s)) s in
    omega (arith, length_chunks (in_bytes words), length_in_bytes words, length_words (word_count (length s)) s)

-- a vector or a null chunk reports on fifteen packets at most

few : (c : ℕ) → (c ≡ 0) ⊎ (32768 ≤ c) → length (packets_of c) ≤ vector_bits
unfolding packets_of
few c (inl e) = rw e (omega arith)
few c (inr h) = omega (arith, span_vector c h)

most : (cs : List ℕ) → ((i : ℕ) → i < length cs → (get_or cs i 0 ≡ 0) ⊎ (32768 ≤ get_or cs i 0)) → length (packets_in cs) ≤ 15 * length cs
unfolding packets_in
most [] plain = omega arith
most (c ∷ cs) plain =
    omega (arith, length-append (packets_of c) (packets_in cs), few c (plain 0 (omega arith)), most cs (λ i h. plain (suc i) (omega arith)))

made_even : (a b : ℕ) → a ≤ b → b % 2 ≡ 0 → a + a % 2 ≤ b
made_even a b h e = omega arith

pub fewest : Fewest
fewest specific body r h plain =
    let facts = rle_facts specific body (rle_known rle_type specific body r h).1 in
    let cs : List ℕ = chunks_of body in
    let reached = ((covers_exactly (interval_in body) cs).0 facts.4).reached in
    let all : reach cs (length cs) ≡ length (packets_in cs) = ap (λ (l : List ℕ). length (packets_in l)) (take-length cs) in
    let whole = facts.1 in
    let some = facts.0 in
    let even : length cs % 2 ≡ 0 = omega (arith, length_chunks (drop rle_head body), length-drop rle_head body) in
    let enough : vectors (interval_in body) ≤ length cs = omega (arith, most cs plain) in
    made_even (vectors (interval_in body)) (length cs) enough even

-- chunk number i of the words of a trace
chunk_at : (n i : ℕ) (s : List ℕ) → i < 2 * n → get_or (chunks_in (in_bytes (words_from n s))) i 0 ≡ chunk_from (drop (15 * i) s)
chunk_at zero i s h = absurd (omega arith)
chunk_at (suc n) zero s h = ap (λ (cs : List ℕ). get_or cs 0 0) (split n s)
chunk_at (suc n) (suc zero) s h = ap (λ (cs : List ℕ). get_or cs 1 0) (split n s)
chunk_at (suc n) (suc (suc i)) s h =
    let further : 30 + 15 * i ≡ 15 * suc (suc i) = omega arith in
    ap (λ (cs : List ℕ). get_or cs (suc (suc i)) 0) (split n s)
    ∙ chunk_at n i (drop 30 s) (omega arith)
    ∙ ap chunk_from (drop-drop (15 * i) 30 s ∙ ap (λ (k : ℕ). drop k s) further)

none : (l : List ℕ) → l ≡ [] → chunk_from l ≡ 0
unfolding chunk_from
none l e = rw e

pub written_chunks : WrittenChunks
written_chunks source begin s t i h =
    let n : ℕ = word_count (length s) in
    let words : List ℕ = words_from n s in
    let is : get_or (chunks_in (in_bytes words)) i 0 ≡ chunk_from (drop (15 * i) s) =
    chunk_at n i s (omega (arith, length_chunks (in_bytes words), length_in_bytes words, length_words n s))
    in
    let from : List ℕ = drop (15 * i) s in
    let bits = drop_bits (15 * i) s (within_bits interval_max s t) in
    rw is (record {
      vector = λ l. let some : 0 < length from = omega (arith, length-drop (15 * i) s) in ((chunk_vector from some).0, chunk_read from some bits);
      null = λ l. none from (drop_of_length-le s {i = 15 * i} l);
    })
