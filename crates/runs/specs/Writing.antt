-- A trace as a block of type 1: document 02, ticket 5. "Our writer uses vector chunks alone, unused bits zero, and a null chunk
-- where the count is odd." The order of the refusals is "the packet's own, then 10 for a trace empty or over 65,533, 9 with 2
-- counted as bad, 17, 8".
use Rattle.std.specs.Prelude.{ℕ, zero, suc, ◌+◌, ◌-◌, ◌*◌, ◌/◌, ◌%◌, ◌^◌, List, [], ◌∷◌, length, drop}
use Rattle.trace.specs.Trace.{lost, judged_within}
use Rattle.chunk.specs.Chunks.{vector_bits}
use Rattle.block.specs.Types.{rle_type, interval_max}
use Rattle.encode.specs.Words.{halves, block_words}
use Rattle.compose.specs.Writing.{append_answer}
use Rattle.refusal.specs.Answer.{Judged, Written}

-- the first packets of a trace as bits, the first of them at the top: 1 for received, 0 for lost and for unused
unfoldable pub bits_from : ℕ → List ℕ → ℕ
bits_from zero s = 0
bits_from (suc bits) [] = 0
bits_from (suc bits) (packet ∷ s) = (1 - packet) * 2 ^ bits + bits_from bits s

-- the vector of the first fifteen packets; a null chunk where there are none
unfoldable pub chunk_from : List ℕ → ℕ
chunk_from [] = 0
chunk_from (packet ∷ s) = 1 * 2 ^ vector_bits + bits_from vector_bits (packet ∷ s)

-- two chunks a word, of the next thirty packets
unfoldable pub words_from : ℕ → List ℕ → List ℕ
words_from zero s = []
words_from (suc n) s = halves (chunk_from s) (chunk_from (drop vector_bits s)) ∷ words_from n (drop (2 * vector_bits) s)

-- as many words as the packets need
abbrev pub word_count : ℕ → ℕ
word_count packets = (packets + 29) / 30

-- "The interval is end minus begin modulo 65,536": here the packets of the trace
abbrev pub end_of : ℕ → List ℕ → ℕ
end_of begin s = (begin + length s) % 65536

-- source; begin, end; chunks
abbrev pub rle_body : ℕ → ℕ → List ℕ → List ℕ
rle_body source begin s = source ∷ halves begin (end_of begin s) ∷ words_from (word_count (length s)) s

abbrev pub rle_words : ℕ → ℕ → List ℕ → List ℕ
rle_words source begin s = block_words rle_type 0 (rle_body source begin s)

-- a trace to write: its own refusals, 10 and 9
abbrev pub own_of : List ℕ → Judged
own_of s = judged_within interval_max lost s

abbrev pub add_answer : List ℕ → ℕ → ℕ → List ℕ → Written
add_answer out source begin s = append_answer out (own_of s) (length (rle_words source begin s))
