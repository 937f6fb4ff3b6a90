-- One block read by itself: document 01, "The packet". "Reading one block by itself takes its type,
-- type-specific byte and body. It answers in the same three kinds, D1 for a listed type whose body has
-- another size, and never gives D4." Reasons, the first that applies: D1, D2, D3; of a type 1 D1,
-- D2, D5. A good type 1 is a fourth kind of answer:
-- document 02, ticket 5.
use Rattle.std.specs.Prelude.{ℕ, ◌*◌, ◌%◌, Bool, cond, ◌&&◌, ◌||◌, List, length, drop, ◌==◌, nat_le, slice_index, Option, Some, None}
use Rattle.refusal.specs.Answer.{unless}
use Rattle.wire.specs.BigEndian.{be16}
use Rattle.chunk.specs.Chunks.{covers}
use Rattle.block.specs.declared.Block.{Block}
use Rattle.block.specs.declared.Block.TheVariants.{Measured, Loss, Discard, Effective, Streams}
use Rattle.block.specs.declared.BlockRead.{BlockRead}
use Rattle.block.specs.declared.BlockRead.TheVariants.{Typed, Rle, Unknown, Dropped}
use Rattle.block.specs.Types.{rle_type, measurement_type, loss_type, discard_type, effective_type, streams_type, measurement_words, loss_words, discard_words, effective_words, streams_words, rle_head, interval_max}
use Rattle.block.specs.Layouts.{measurement_in, flag_in, loss_in, discard_in, effective_in, streams_in, thinning_in, interval_in, chunks_of, rle_in}
use Rattle.block.specs.declared.Reason.TheVariants.{BadSize, BadFlag, BadRate, BadChunks}

-- "Rates are 0 to 32,768, or 65,535 for unavailable."
abbrev pub rate_max : ℕ
rate_max = 32768

abbrev pub unavailable : ℕ
unavailable = 65535

unfoldable pub rate_good : ℕ → Bool
rate_good r = nat_le r rate_max || r == unavailable

abbrev pub rates_good : ℕ → ℕ → Bool
rates_good burst gap = rate_good burst && rate_good gap

-- "1, 2 or 3 good, 0 reserved"
unfoldable pub flag_good : ℕ → Bool
flag_good flag = nat_le 1 flag && nat_le flag 3

-- what refusal 16 lets through: a flag and two rates that reading would not drop
unfoldable pub summary_good : ℕ → ℕ → ℕ → Bool
summary_good flag burst gap = flag_good flag && rates_good burst gap

-- D1
abbrev pub sized : ℕ → List ℕ → BlockRead → BlockRead
sized words body answer = unless (length body == 4 * words) (Dropped BadSize) answer

-- a 17 or 18 of its size with this flag and these rates: D2, then D3, then the block
unfoldable pub summary_read : ℕ → ℕ → ℕ → Block → BlockRead
summary_read flag burst gap b =
    unless (flag_good flag) (Dropped BadFlag)
    (unless (rates_good burst gap) (Dropped BadRate)
    (Typed b))

unfoldable pub read_measurement : List ℕ → BlockRead
read_measurement body = sized measurement_words body (Typed (Measured (measurement_in body)))

unfoldable pub read_loss : ℕ → List ℕ → BlockRead
read_loss specific body = sized loss_words body (summary_read (flag_in specific) (be16 body 4) (be16 body 6) (Loss (loss_in specific body)))

unfoldable pub read_discard : ℕ → List ℕ → BlockRead
read_discard specific body = sized discard_words body (summary_read (flag_in specific) (be16 body 4) (be16 body 6) (Discard (discard_in specific body)))

unfoldable pub read_effective : List ℕ → BlockRead
read_effective body = sized effective_words body (Typed (Effective (effective_in body)))

unfoldable pub read_streams : List ℕ → BlockRead
read_streams body = sized streams_words body (Typed (Streams (streams_in body)))

-- type 1: whole words, the first two of them there; and an interval that its chunks cover
abbrev pub rle_sized : List ℕ → Bool
rle_sized body = nat_le rle_head (length body) && length body % 4 == 0

abbrev pub rle_covered : List ℕ → Bool
rle_covered body = nat_le (interval_in body) interval_max && covers (interval_in body) (chunks_of body)

unfoldable pub read_rle : ℕ → List ℕ → BlockRead
read_rle specific body =
    unless (rle_sized body) (Dropped BadSize)
    (unless (thinning_in specific == 0) (Dropped BadFlag)
    (unless (rle_covered body) (Dropped BadChunks)
    (Rle (rle_in body))))

unfoldable pub read_block : ℕ → ℕ → List ℕ → BlockRead
read_block type specific body =
    cond (type == rle_type) (read_rle specific body)
    (cond (type == measurement_type) (read_measurement body)
    (cond (type == loss_type) (read_loss specific body)
    (cond (type == discard_type) (read_discard specific body)
    (cond (type == effective_type) (read_effective body)
    (cond (type == streams_type) (read_streams body)
    Unknown)))))

-- a block by its own bytes: type, type-specific byte, two bytes of block length, body. Fewer than four are no block.
unfoldable pub read_bytes : List ℕ → BlockRead
read_bytes bytes = unless (nat_le 4 (length bytes)) Unknown (read_block (slice_index bytes 0) (slice_index bytes 1) (drop 4 bytes))

-- what a typed block needs in its packet: a 17 or 18 needs a block 14 for its source (D4)
abbrev pub needs_of : Block → Option ℕ
needs_of (Measured m) = None
needs_of (Loss l) = Some l.source
needs_of (Discard d) = Some d.source
needs_of (Effective e) = None
needs_of (Streams t) = None

-- what a block measures: the source of a well-sized 14
abbrev pub measures_of : BlockRead → Option ℕ
measures_of (Typed (Measured m)) = Some m.source
measures_of (Typed (Loss l)) = None
measures_of (Typed (Discard d)) = None
measures_of (Typed (Effective e)) = None
measures_of (Typed (Streams t)) = None
measures_of (Rle r) = None
measures_of Unknown = None
measures_of (Dropped reason) = None
