-- The listed block types and their sizes: document 01, "The packet", the table. The drafts print TBD for the
-- last two; 240 and 241 are ours. Document 002 prints block length 3 for three words, which by RFC 3611 is 2. And type 1,
-- Loss RLE, of no fixed size: document 02, ticket 5.
use Rattle.std.specs.Prelude.{ℕ}
use Rattle.block.specs.declared.Reason.{Reason}
use Rattle.block.specs.declared.Reason.TheVariants.{BadSize, BadFlag, BadRate, Unmeasured, BadChunks}

abbrev pub rle_type : ℕ
rle_type = 1

abbrev pub measurement_type : ℕ
measurement_type = 14

abbrev pub loss_type : ℕ
loss_type = 17

abbrev pub discard_type : ℕ
discard_type = 18

abbrev pub effective_type : ℕ
effective_type = 240

abbrev pub streams_type : ℕ
streams_type = 241

-- words after the block's first
abbrev pub measurement_words : ℕ
measurement_words = 7

abbrev pub loss_words : ℕ
loss_words = 3

abbrev pub discard_words : ℕ
discard_words = 2

abbrev pub effective_words : ℕ
effective_words = 2

abbrev pub streams_words : ℕ
streams_words = 11

-- the words of a type 1 before its chunks, in bytes
abbrev pub rle_head : ℕ
rle_head = 8

-- the longest interval of a type 1, in packets
abbrev pub interval_max : ℕ
interval_max = 65533

-- the reasons to drop a block: D1 a listed type with another length, D2 flag 0, D3 a rate from 32,769 to
-- 65,534, D4 a 17 or 18 with no well-sized block 14 for the same source anywhere in the packet; of a type 1 D1 "fewer than two
-- words, or not whole words", D2 "thinning not 0", D5 an interval over 65,533 or chunks
-- that do not cover it
abbrev pub bad_size : ℕ
bad_size = 1

abbrev pub bad_flag : ℕ
bad_flag = 2

abbrev pub bad_rate : ℕ
bad_rate = 3

abbrev pub unmeasured : ℕ
unmeasured = 4

abbrev pub bad_chunks : ℕ
bad_chunks = 5

-- a reason by its number
abbrev pub reason_number : Reason → ℕ
reason_number BadSize = bad_size
reason_number BadFlag = bad_flag
reason_number BadRate = bad_rate
reason_number Unmeasured = unmeasured
reason_number BadChunks = bad_chunks
