-- A written block read by itself: its chunks cover the trace and are the trace again. Assumes nothing.
use Rattle.std.proofs.Common.{◌≡◌, ℕ, zero, suc, ◌+◌, ◌-◌, ◌*◌, ◌/◌, ◌%◌, ◌<◌, ◌≤◌, true, List, [], ◌∷◌, ◌++◌, length, get_or, take, drop, replicate, sym, refl, ap, ◌∙◌, ap₂, arith, length-drop, take-append-drop, length-take, get_or-drop, take_all, take-take, drop-drop, lt-ltb, eq-eqb, ne_eqb, le-leb}
use native.Mathlib.Decide.{dec_le, dec_lt}
use lib.ListN.{get_or-eq_default}
use lib.Seq.{take-append-le, take-append_seam}
use Rattle.wire.specs.BigEndian.{be16, be32}
use Rattle.trace.specs.Laws.{IsWithin}
use Rattle.trace.specs.Trace.{lost}
use Rattle.chunk.specs.Chunks.{vector_bits, packets_of, packets_in, covers, trace_in, lost_in, chunks_in}
use Rattle.chunk.proofs.Traces.{take_both}
use Rattle.chunk.proofs.Vectors.{span_vector}
use Rattle.block.specs.Types.{interval_max}
use Rattle.block.specs.Layouts.{covered, interval_in, chunks_of, trace_of, rle_in}
use Rattle.block.specs.Reading.{rle_covered, read_rle}
use Rattle.block.specs.declared.BlockRead.TheVariants.{Rle}
use Rattle.encode.specs.Words.{halves, in_bytes}
use Rattle.encode.specs.Laws.{Half, Word}
use Rattle.encode.proofs.Storing.{length_in_bytes}
use Rattle.runs.specs.Writing.{chunk_from, words_from, word_count, end_of, rle_body}
use Rattle.runs.specs.Packets.{Bits}
use Rattle.runs.proofs.Vectors.{chunk_vector, chunk_read}

-- a word of two chunks
pub word_chunks : (a b : ℕ) (ws : List ℕ) → a < 65536 → b < 65536 → chunks_in (in_bytes (halves a b ∷ ws)) ≡ a ∷ b ∷ chunks_in (in_bytes ws)
unfolding chunks_in
word_chunks a b ws low high =
    let w : ℕ = halves a b in
    let first : w / 16777216 * 256 + w / 65536 % 256 ≡ a = omega arith in
    let second : w / 256 % 256 * 256 + w % 256 ≡ b = omega arith in
    ap₂ (λ (x y : ℕ). x ∷ y ∷ chunks_in (in_bytes ws)) first second

pub chunk_fits : (s : List ℕ) → chunk_from s < 65536
unfolding chunk_from
chunk_fits [] = omega arith
chunk_fits (packet ∷ s) = (chunk_vector (packet ∷ s) (omega arith)).1

-- one chunk takes fifteen packets
pub one_covers : (s cs : List ℕ) → covers (length s) (chunk_from s ∷ cs) ≡ covers (length (drop vector_bits s)) cs
unfolding covers chunk_from packets_of
one_covers [] cs = refl
one_covers (packet ∷ s) cs =
    let all : List ℕ = packet ∷ s in
    let vector = chunk_vector all (omega arith) in
    let bits = span_vector (chunk_from all) vector.0 in
    let left : length all - length (packets_of (chunk_from all)) ≡ length (drop vector_bits all) = omega (arith, length-drop vector_bits all) in
    rw (ne_eqb (chunk_from all) 0 (λ e. omega arith), lt-ltb 0 (length all) (omega arith), left)

front : (s : List ℕ) → take (length s) (take vector_bits (s ++ replicate vector_bits 1)) ≡ take vector_bits s
front s = go (dec_le vector_bits (length s))
  where
    go : Dec (vector_bits ≤ length s) → take (length s) (take vector_bits (s ++ replicate vector_bits 1)) ≡ take vector_bits s
    go (yes h) =
        let fifteen = take-append-le vector_bits s (replicate vector_bits 1) h in
        ap (take (length s)) fifteen ∙ take_all (length s) (take vector_bits s) (omega (arith, length-take vector_bits s))
    go (no h) =
        take-take (length s) vector_bits (s ++ replicate vector_bits 1) (omega arith) ∙ take-append_seam s (replicate vector_bits 1)
        ∙ sym (take_all vector_bits s (omega arith))

pub one_taken : (s cs : List ℕ) → Bits s → take (length s) (packets_in (chunk_from s ∷ cs)) ≡ take vector_bits s ++ take (length (drop vector_bits s)) (packets_in cs)
unfolding packets_in
one_taken [] cs b = refl
one_taken (packet ∷ s) cs b =
    let all : List ℕ = packet ∷ s in
    let c : ℕ = chunk_from all in
    let bits = span_vector c (chunk_vector all (omega arith)).0 in
    let left : length all - length (packets_of c) ≡ length (drop vector_bits all) = omega (arith, length-drop vector_bits all) in
    take_both (length all) (packets_of c) (packets_in cs)
    ∙ ap₂ (λ (l : List ℕ) (n : ℕ). l ++ take n (packets_in cs)) (ap (take (length all)) (chunk_read all (omega arith) b) ∙ front all) left

pub drop_bits : (n : ℕ) (s : List ℕ) → Bits s → Bits (drop n s)
drop_bits n s b i = rw (get_or-drop n s i 0) (b (n + i))

-- the words of a trace
module _ (n : ℕ) (s : List ℕ) where
  pub split : chunks_in (in_bytes (words_from (suc n) s)) ≡ chunk_from s ∷ chunk_from (drop vector_bits s) ∷ chunks_in (in_bytes (words_from n (drop (2 * vector_bits) s)))
  unfolding words_from
  split = word_chunks (chunk_from s) (chunk_from (drop vector_bits s)) (words_from n (drop (2 * vector_bits) s)) (chunk_fits s) (chunk_fits (drop vector_bits s))

twice : (s : List ℕ) → drop vector_bits (drop vector_bits s) ≡ drop (2 * vector_bits) s
twice s = drop-drop vector_bits vector_bits s

pub words_cover : (n : ℕ) (s : List ℕ) → length s ≤ 30 * n → covers (length s) (chunks_in (in_bytes (words_from n s))) ≡ true
unfolding covers words_from chunks_in
words_cover zero s h = eq-eqb (length s) 0 (omega arith)
words_cover (suc n) s h =
    let rest : List ℕ = drop (2 * vector_bits) s in
    let cs : List ℕ = chunks_in (in_bytes (words_from n rest)) in
    ap (covers (length s)) (split n s) ∙ one_covers s (chunk_from (drop vector_bits s) ∷ cs) ∙ one_covers (drop vector_bits s) cs
    ∙ ap (λ (l : List ℕ). covers (length l) (chunks_in (in_bytes (words_from n rest)))) (twice s)
    ∙ words_cover n rest (omega (arith, length-drop (2 * vector_bits) s))

pub words_taken : (n : ℕ) (s : List ℕ) → Bits s → length s ≤ 30 * n → trace_in (length s) (chunks_in (in_bytes (words_from n s))) ≡ s
unfolding words_from chunks_in packets_in
words_taken zero [] b h = refl
words_taken zero (packet ∷ s) b h = absurd (omega arith)
words_taken (suc n) s b h =
    let rest : List ℕ = drop (2 * vector_bits) s in
    let cs : List ℕ = chunks_in (in_bytes (words_from n rest)) in
    let later : List ℕ = drop vector_bits s in
    ap (λ (l : List ℕ). take (length s) (packets_in l)) (split n s)
    ∙ one_taken s (chunk_from later ∷ cs) b
    ∙ ap (λ (l : List ℕ). take vector_bits s ++ l) (
    one_taken later cs (drop_bits vector_bits s b)
    ∙ ap (λ (l : List ℕ). take vector_bits later ++ take (length l) (packets_in cs)) (twice s)
    ∙ ap (λ (l : List ℕ). take vector_bits later ++ l) (words_taken n rest (drop_bits (2 * vector_bits) s b) (omega (arith, length-drop (2 * vector_bits) s)) ∙ sym (twice s))
    ∙ take-append-drop vector_bits later)
    ∙ take-append-drop vector_bits s

pub length_words : (n : ℕ) (s : List ℕ) → length (words_from n s) ≡ n
unfolding words_from
length_words zero s = refl
length_words (suc n) s = ap suc (length_words n (drop (2 * vector_bits) s))

-- word number i
pub get_d_words : (n i : ℕ) (s : List ℕ) → i < n → get_or (words_from n s) i 0 ≡ halves (chunk_from (drop (30 * i) s)) (chunk_from (drop (30 * i + 15) s))
unfolding words_from
get_d_words zero i s h = absurd (omega arith)
get_d_words (suc n) zero s h = refl
get_d_words (suc n) (suc i) s h =
    let first : 30 + 30 * i ≡ 30 * suc i = omega arith in
    let second : 30 + (30 * i + 15) ≡ 30 * suc i + 15 = omega arith in
    get_d_words n i (drop 30 s) (omega arith)
    ∙ ap₂ (λ (x y : List ℕ). halves (chunk_from x) (chunk_from y))
    (drop-drop (30 * i) 30 s ∙ ap (λ (k : ℕ). drop k s) first)
    (drop-drop (30 * i + 15) 30 s ∙ ap (λ (k : ℕ). drop k s) second)

-- a trace of received and lost packets
pub within_bits : (limit : ℕ) (s : List ℕ) → IsWithin limit lost s → Bits s
within_bits limit s t i = go (dec_lt i (length s))
  where
    go : Dec (i < length s) → get_or s i 0 ≤ lost
    go (yes h) = t.each i h
    go (no h) = rw (get_or-eq_default s 0 {n = i} (omega arith)) (omega arith)

-- the body of a written block
module _ (source begin : ℕ) (s : List ℕ) (s-fits : Word source) (b-fits : Half begin) (t : IsWithin interval_max lost s) where
  abbrev body : List ℕ
  body = in_bytes (rle_body source begin s)

  most : length s ≤ interval_max
  most = t.most

  -- its numbers
  source_is : be32 body 0 ≡ source
  unfolding be32 be16
  source_is = omega arith

  begin_is : be16 body 4 ≡ begin
  unfolding be16
  begin_is = let w : ℕ = halves begin (end_of begin s) in let is : w / 16777216 * 256 + w / 65536 % 256 ≡ begin = omega arith in is

  end_is : be16 body 6 ≡ end_of begin s
  unfolding be16
  end_is = let w : ℕ = halves begin (end_of begin s) in let is : w / 256 % 256 * 256 + w % 256 ≡ end_of begin s = omega arith in is

  interval_is : interval_in body ≡ length s
  interval_is = let m = most in ap₂ covered begin_is end_is ∙ (let is : covered begin (end_of begin s) ≡ length s = omega arith in is)

  pub trace_is : trace_of body ≡ s
  trace_is =
      ap (λ (n : ℕ). trace_in n (chunks_of body)) interval_is
      ∙ words_taken (word_count (length s)) s (within_bits interval_max s t) (omega arith)

  size : length body ≡ 4 * (2 + word_count (length s))
  size = omega (arith, length_in_bytes (rle_body source begin s), length_words (word_count (length s)) s)

  covered_is : rle_covered body ≡ true
  covered_is =
      let m = most in
      rw (interval_is, le-leb (length s) interval_max m) (words_cover (word_count (length s)) s (omega arith))

  pub read_body : read_rle 0 body ≡ Rle (record { source = source; begin = begin; end = end_of begin s; lost = lost_in s })
  unfolding read_rle rle_in
  read_body =
      let long = size in
      rw (le-leb 8 (length body) (omega arith), eq-eqb (length body % 4) 0 (omega arith), covered_is, trace_is, source_is, begin_is, end_is)
