-- What callers may lean on, as statements about the definitions that the readers promise. Proved in proofs/.
use Rattle.std.specs.Prelude.{◌≡◌, ℕ, ◌%◌, ◌<◌, ◌≤◌, ◌⊎◌, ◌↔◌, List, length, ◌≢◌, slice_index, Some}
use Rattle.trace.specs.Trace.{lost}
use Rattle.wire.specs.BigEndian.{be16, be32}
use Rattle.chunk.specs.Chunks.{lost_in}
use Rattle.chunk.specs.Laws.{Covers, Cause}
use Rattle.block.specs.declared.Measurement.{Measurement}
use Rattle.block.specs.declared.LossRle.{LossRle}
use Rattle.block.specs.declared.Block.TheVariants.{Measured}
use Rattle.block.specs.declared.BlockRead.{BlockRead}
use Rattle.block.specs.declared.BlockRead.TheVariants.{Typed, Rle, Dropped}
use Rattle.block.specs.Types.{rle_type, rle_head, interval_max, bad_size, bad_chunks, reason_number}
use Rattle.block.specs.Layouts.{covered, thinning_in, interval_in, chunks_of, trace_of}
use Rattle.block.specs.Reading.{read_block, measures_of}
use Rattle.block.specs.Reserved.{cleared_byte, cleared_body}
use Rattle.block.specs.declared.Reason.{Reason}
use Rattle.block.specs.declared.Reason.TheVariants.{BadSize, BadFlag, Unmeasured, BadChunks}

-- A block read by itself is dropped for D1, D2, D3 or D5, never for D4.
abbrev pub OwnReason : Reason → Type 0
OwnReason reason = (bad_size ≤ reason_number reason) × (reason_number reason ≤ bad_chunks) × (reason ≢ Unmeasured)

abbrev pub OwnReasons : Type 0
OwnReasons =
    (type specific : ℕ) (body : List ℕ) (reason : Reason) → read_block type specific body ≡ Dropped reason → OwnReason reason

-- Two blocks that differ in reserved bits alone read the same.
abbrev pub ReservedIgnored : Type 0
ReservedIgnored =
    (type specific specific' : ℕ) (body body' : List ℕ) → cleared_byte type specific ≡ cleared_byte type specific' →
    cleared_body type body ≡ cleared_body type body' → read_block type specific body ≡ read_block type specific' body'

-- the answer is a 14 for this source
pub record MeasuredFor (answer : BlockRead) (x : ℕ) : Type 0 where
  pub block : Measurement
  pub typed : answer ≡ Typed (Measured block)
  pub source : block.source ≡ x

-- A source is measured exactly where the answer is a 14 for it.
abbrev pub MeasuresExactly : Type 0
MeasuresExactly =
    (answer : BlockRead) (x : ℕ) → (measures_of answer ≡ Some x → MeasuredFor answer x) × (MeasuredFor answer x → measures_of answer ≡ Some x)

-- A block reads as Loss RLE exactly where its bytes say so: type 1, two words and more, all whole, no thinning, and an interval in
-- range that its chunks cover; source, begin and end stand in their places, and the lost are those of its trace.
pub record IsRle (type specific : ℕ) (body : List ℕ) (r : LossRle) : Type 0 where
  pub type_is : type ≡ rle_type
  pub some : rle_head ≤ length body
  pub whole : length body % 4 ≡ 0
  pub plain : thinning_in specific ≡ 0
  pub in_range_lem : interval_in body ≤ interval_max
  pub covers : Covers (interval_in body) (chunks_of body)
  pub source : r.source ≡ be32 body 0
  pub begin : r.begin ≡ be16 body 4
  pub end : r.end ≡ be16 body 6
  pub lost_is : r.lost ≡ lost_in (trace_of body)

abbrev pub RleExactly : Type 0
RleExactly = (type specific : ℕ) (body : List ℕ) (r : LossRle) → (read_block type specific body ≡ Rle r) ↔ IsRle type specific body r

-- "a bad one is dropped as D1 (fewer than two words, or not whole words), D2 (thinning not 0) or D5", the first that applies
abbrev pub D1Exactly : Type 0
D1Exactly = (specific : ℕ) (body : List ℕ) → (read_block rle_type specific body ≡ Dropped BadSize) ↔ ((length body < rle_head) ⊎ (length body % 4 ≢ 0))

abbrev pub D2Exactly : Type 0
D2Exactly =
    (specific : ℕ) (body : List ℕ) → rle_head ≤ length body → length body % 4 ≡ 0 → (read_block rle_type specific body ≡ Dropped BadFlag) ↔ (thinning_in specific ≢ 0)

-- "D5 (an interval over 65,533, a null chunk before the end, chunks cover too little, or a chunk other than null follows the
-- end)": of a type 1 of whole words without thinning, exactly for one of the four.
pub record SizedPlain (specific : ℕ) (body : List ℕ) : Type 0 where
  pub some : rle_head ≤ length body
  pub whole : length body % 4 ≡ 0
  pub plain : thinning_in specific ≡ 0

abbrev pub D5Exactly : Type 0
D5Exactly =
    (specific : ℕ) (body : List ℕ) → SizedPlain specific body →
    (read_block rle_type specific body ≡ Dropped BadChunks) ↔ ((interval_max < interval_in body) ⊎ Cause (interval_in body) (chunks_of body))

-- The lost of a good type 1 are the ones of the trace that is read out, which has as many packets as the interval.
pub record RleTrace (body : List ℕ) (r : LossRle) : Type 0 where
  pub long : length (trace_of body) ≡ covered r.begin r.end
  pub lost_is : r.lost ≡ lost_in (trace_of body)
  pub bits : (i : ℕ) → slice_index (trace_of body) i ≤ lost

abbrev pub RleTraceLaw : Type 0
RleTraceLaw = (type specific : ℕ) (body : List ℕ) (r : LossRle) → read_block type specific body ≡ Rle r → RleTrace body r
