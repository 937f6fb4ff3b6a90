-- What callers may lean on, as statements about the bytes that the calls promise: document 02, ticket 5. Proved in proofs/.
use Rattle.std.specs.Prelude.{◌≡◌, ℕ, ◌+◌, ◌*◌, ◌/◌, ◌%◌, ◌<◌, ◌≤◌, ◌⊎◌, List, ◌++◌, length, take, drop, replicate, slice_index, Ok}
use Rattle.trace.specs.Trace.{lost}
use Rattle.trace.specs.Laws.{IsWithin}
use Rattle.chunk.specs.Chunks.{vector_bits, packets_of, lost_in}
use Rattle.block.specs.Types.{rle_type, interval_max}
use Rattle.block.specs.Layouts.{interval_in, chunks_of, trace_of}
use Rattle.block.specs.Reading.{read_block, read_bytes}
use Rattle.block.specs.Laws.{RleTrace}
use Rattle.block.specs.declared.LossRle.{LossRle}
use Rattle.block.specs.declared.BlockRead.TheVariants.{Rle}
use Rattle.encode.specs.Words.{in_bytes}
use Rattle.encode.specs.Laws.{Half, Word}
use Rattle.frame.specs.Frames.{Entry}
use Rattle.frame.specs.Packet.{Packet, good, size_in, packet_of, front_packet}
use Rattle.packet.specs.Answers.{block_of, body_of, part_of, answered}
use Rattle.compose.specs.Laws.{after_append, Appended}
use Rattle.runs.specs.Writing.{end_of, rle_body, rle_words, own_of, add_answer}
use Rattle.runs.specs.Answers.{trace_answer, trace_at}

-- the buffer after a trace was added, as the call promises it, and the block
abbrev pub after_add : List ℕ → ℕ → ℕ → List ℕ → List ℕ
after_add out source begin s = after_append out (own_of s) (rle_words source begin s)

abbrev pub rle_of : ℕ → ℕ → List ℕ → LossRle
rle_of source begin s = record { source = source; begin = begin; end = end_of begin s; lost = lost_in s }

-- a trace that was added to the packet at the front of `out`
pub record Add (out : List ℕ) (source begin : ℕ) (s : List ℕ) (sender : ℕ) (es : List Entry) (n : ℕ) : Type 0 where
  pub source_fits : Word source
  pub begin_fits : Half begin
  pub packet : front_packet out ≡ good sender es
  pub answer : add_answer out source begin s ≡ Ok n

-- "Reading back what was written gives the trace", by itself and by index; the packet stays good, and earlier blocks read as before.
pub record ReadBack (p : Packet) (out now : List ℕ) (source begin : ℕ) (s : List ℕ) (sender : ℕ) (es : List Entry) (n : ℕ) : Type 0 where
  pub good_packet : Appended out now rle_type 0 (rle_body source begin s) sender es n
  pub by_itself : read_bytes (drop (size_in out) (take n now)) ≡ Rle (rle_of source begin s)
  pub own_trace : trace_of (drop 4 (drop (size_in out) (take n now))) ≡ s
  pub by_index : block_of p (length es) ≡ answered rle_type (Rle (rle_of source begin s))
  pub trace : trace_at p (length es) ≡ s
  pub packets : (room : List ℕ) → length s ≤ length room → trace_answer p (length es) room ≡ Ok (length s)
  pub earlier : (k : ℕ) → k < length es → (block_of p k ≡ block_of (front_packet out) k) × (part_of p k ≡ part_of (front_packet out) k) × (body_of p k ≡ body_of (front_packet out) k)

abbrev pub AddedRead : Type 0
AddedRead =
    (out : List ℕ) (source begin : ℕ) (s : List ℕ) (sender : ℕ) (es : List Entry) (n : ℕ) → Add out source begin s sender es n →
    ReadBack (packet_of (take n (after_add out source begin s))) out (after_add out source begin s) source begin s sender es n

-- Of a good type 1 of any packet the trace is as long as its interval, its packets are received or lost, and its lost are the
-- number in the answer about the block.
abbrev pub TraceOfBlock : Type 0
TraceOfBlock = (s : List ℕ) (k type : ℕ) (r : LossRle) → block_of (packet_of s) k ≡ answered type (Rle r) → RleTrace (body_of (packet_of s) k) r

-- "Our writer uses vector chunks alone, unused bits zero, and a null chunk where the count is odd.": chunk i is the vector of the
-- fifteen packets from 15 i on, behind the last of them lost ones, which is what a zero is; and null where there are none.
pub record Chunk (s : List ℕ) (i c : ℕ) : Type 0 where
  pub vector : 15 * i < length s → (32768 ≤ c) × (packets_of c ≡ take vector_bits (drop (15 * i) s ++ replicate vector_bits lost))
  pub null : length s ≤ 15 * i → c ≡ 0

abbrev pub WrittenChunks : Type 0
WrittenChunks =
    (source begin : ℕ) (s : List ℕ) → IsWithin interval_max lost s → (i : ℕ) → i < length (chunks_of (in_bytes (rle_body source begin s))) →
    Chunk s i (slice_index (chunks_of (in_bytes (rle_body source begin s))) i)

-- The number of chunks is the packets / 15 rounded up, made even.
abbrev pub vectors : ℕ → ℕ
vectors packets = (packets + 14) / 15

abbrev pub ChunkCount : Type 0
ChunkCount = (source begin : ℕ) (s : List ℕ) → length (chunks_of (in_bytes (rle_body source begin s))) ≡ vectors (length s) + vectors (length s) % 2

-- No good type 1 of vectors alone, with null chunks behind them, covers as many packets with fewer chunks.
abbrev pub Fewest : Type 0
Fewest =
    (specific : ℕ) (body : List ℕ) (r : LossRle) → read_block rle_type specific body ≡ Rle r →
    ((i : ℕ) → i < length (chunks_of body) → (slice_index (chunks_of body) i ≡ 0) ⊎ (32768 ≤ slice_index (chunks_of body) i)) →
    vectors (interval_in body) + vectors (interval_in body) % 2 ≤ length (chunks_of body)
