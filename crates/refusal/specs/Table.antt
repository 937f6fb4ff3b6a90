-- Document 01, "When the set says no": the refusals by number, in the table's order. "A refusal returns
-- its number and a place: the block's offset for 6, the first bad byte's index for 9 in a trace, 0
-- elsewhere."
use Rattle.std.specs.Prelude.{ℕ}
use Rattle.refusal.specs.declared.Refusal.{Refusal}
use Rattle.refusal.specs.declared.Refusal.TheVariants.{PacketShort, Version, PacketType, PacketLength, Padding, BlockPastEnd, NoSuchBlock, BufferShort, TraceByte, TraceLength, CardDigits, CardCheck, CardField, BatchLength, Setting, BlockValue, PacketFull}

-- packet under 8 bytes
abbrev pub packet_short : Refusal
packet_short = PacketShort

-- version not 2
abbrev pub version : Refusal
version = Version

-- byte 1 not 207
abbrev pub packet_type : Refusal
packet_type = PacketType

-- 4 × (length + 1) is not the slice's length; when adding, exceeds the buffer or is under 8
abbrev pub packet_length : Refusal
packet_length = PacketLength

-- padding bit set
abbrev pub padding : Refusal
padding = Padding

-- a block runs past the end; placed at the block's offset
abbrev pub block_past_end : ℕ → Refusal
block_past_end offset = BlockPastEnd offset

-- no block with that index
abbrev pub no_such_block : Refusal
no_such_block = NoSuchBlock

-- buffer shorter than the result needs
abbrev pub buffer_short : Refusal
buffer_short = BufferShort

-- trace byte above 2, or such a byte given to a tally; placed at its index in a trace, at 0 in a tally
abbrev pub trace_byte : ℕ → Refusal
trace_byte index = TraceByte index

-- trace empty or over 65,536; a tally at 65,536 given one more
abbrev pub trace_length : Refusal
trace_length = TraceLength

-- card not 20 digits
abbrev pub card_digits : Refusal
card_digits = CardDigits

-- card check not right
abbrev pub card_check : Refusal
card_check = CardCheck

-- card field outside its range
abbrev pub card_field : Refusal
card_field = CardField

-- batch longer than the trace
abbrev pub batch_length : Refusal
batch_length = BatchLength

-- a setting outside its range, or a tally not sound
abbrev pub setting : Refusal
setting = Setting

-- block 17 or 18 to write has a flag other than 1, 2 or 3, or a rate that reading would drop
abbrev pub block_value : Refusal
block_value = BlockValue

-- packet length would pass 65,535
abbrev pub packet_full : Refusal
packet_full = PacketFull

-- the number of a refusal, by the table's rows
abbrev pub refusal_number : Refusal → ℕ
refusal_number PacketShort = 1
refusal_number Version = 2
refusal_number PacketType = 3
refusal_number PacketLength = 4
refusal_number Padding = 5
refusal_number (BlockPastEnd place) = 6
refusal_number NoSuchBlock = 7
refusal_number BufferShort = 8
refusal_number (TraceByte place) = 9
refusal_number TraceLength = 10
refusal_number CardDigits = 11
refusal_number CardCheck = 12
refusal_number CardField = 13
refusal_number BatchLength = 14
refusal_number Setting = 15
refusal_number BlockValue = 16
refusal_number PacketFull = 17

-- and its place
abbrev pub refusal_place : Refusal → ℕ
refusal_place PacketShort = 0
refusal_place Version = 0
refusal_place PacketType = 0
refusal_place PacketLength = 0
refusal_place Padding = 0
refusal_place (BlockPastEnd place) = place
refusal_place NoSuchBlock = 0
refusal_place BufferShort = 0
refusal_place (TraceByte place) = place
refusal_place TraceLength = 0
refusal_place CardDigits = 0
refusal_place CardCheck = 0
refusal_place CardField = 0
refusal_place BatchLength = 0
refusal_place Setting = 0
refusal_place BlockValue = 0
refusal_place PacketFull = 0
