-- Reserved bits: document 01, "The packet": "Reserved bits are ignored when read and zero when written." A block with
-- them made zero, and its bytes.
use Rattle.std.specs.Prelude.{ℕ, ◌*◌, ◌/◌, ◌%◌, cond, ◌||◌, List, [], ◌∷◌, ◌++◌, length, drop, ◌==◌, nat_le, slice_index, slice_set}
use Rattle.refusal.specs.Answer.{unless}
use Rattle.wire.specs.BigEndian.{bytes16}
use Rattle.block.specs.Types.{rle_type, measurement_type, loss_type, discard_type, effective_type, streams_type}

-- The type-specific byte. Of a 17 or 18 the top two bits are the interval flag and six are reserved (RFC 7004, sections
-- 3.1.2 and 3.2.2); of a 14 (RFC 6776, section 4), a 240 (document 002, section 3) or a 241 (document 004, section 3) all
-- eight are; of a 1 the high four (RFC 3611, section 4.1). A type that is not listed keeps its byte: nothing of it is known to
-- be reserved.
abbrev pub cleared_byte : ℕ → ℕ → ℕ
cleared_byte type specific =
    cond (type == loss_type || type == discard_type) (specific / 64 * 64)
    (cond (type == measurement_type || (type == effective_type || type == streams_type)) 0
    (cond (type == rle_type) (specific % 16)
    specific))

-- The body, document 01's table: a 14's "16 reserved bits" before the first sequence number, and a 240's after the index.
abbrev pub cleared_body : ℕ → List ℕ → List ℕ
cleared_body type body =
    cond (type == measurement_type) (slice_set (slice_set body 4 0) 5 0)
    (cond (type == effective_type) (slice_set (slice_set body 6 0) 7 0)
    body)

-- "A block: type, one type-specific byte, block length in 32-bit words less one, then that many words" (RFC 3611, section 3)
abbrev pub block_bytes : ℕ → ℕ → List ℕ → List ℕ
block_bytes type specific body = (type ∷ specific ∷ bytes16 (length body / 4)) ++ body

-- a block's own bytes: its first word keeps its type and length; fewer than four bytes are no block, and stay
abbrev pub cleared_bytes : List ℕ → List ℕ
cleared_bytes bytes =
    unless (nat_le 4 (length bytes)) bytes
    ((slice_index bytes 0 ∷ cleared_byte (slice_index bytes 0) (slice_index bytes 1) ∷ slice_index bytes 2 ∷ slice_index bytes 3 ∷ []) ++ cleared_body (slice_index bytes 0) (drop 4 bytes))
