-- A packet as its sender and its list of blocks, or the refusal: document 01, "The packet" and the order
-- line "packets 1, 2, 3, 4, 5, 6". "Byte 0: version 2 in the top two bits, padding bit, five reserved bits.
-- Byte 1: 207. Bytes 2 and 3: packet length in 32-bit words less one. Bytes 4 to 7: sender."
use Rattle.std.specs.Prelude.{ℕ, zero, suc, ◌+◌, ◌*◌, ◌/◌, ◌%◌, Bool, ◌&&◌, List, [], ◌∷◌, eqb, leb, length, get_or, Option, Some, None, Result, Ok, Err}
use Rattle.refusal.specs.Table.{packet_short, version, packet_type, packet_length, padding, block_past_end}
use Rattle.refusal.specs.Answer.{unless}
use Rattle.refusal.specs.declared.Refusal.{Refusal}
use Rattle.wire.specs.BigEndian.{be16, be32}
use Rattle.frame.specs.declared.Extent.{Extent}
use Rattle.frame.specs.declared.Extent.TheVariants.{Whole, Front}
use Rattle.frame.specs.declared.Header.{Header}
use Rattle.frame.specs.declared.Walked.{Walked}
use Rattle.frame.specs.declared.Located.{Located}
use Rattle.frame.specs.Frames.{Entry, Frames, whole, past, first_block, frames_in}

-- the packet's size in bytes, as its length field has it
abbrev pub size_in : List ℕ → ℕ
size_in s = 4 * (be16 s 2 + 1)

-- 4: reading, the size "is not the slice's length"; adding, it "exceeds the buffer or is under 8"
abbrev pub size_fits : Extent → ℕ → ℕ → Bool
size_fits Whole size room = eqb size room
size_fits Front size room = leb first_block size && leb size room

-- the first eight bytes judged: the sender and the size, or the first refusal of 1 to 5 that applies
unfoldable pub header_of : Extent → List ℕ → Result Header Refusal
header_of extent s =
    unless (leb first_block (length s)) (Err packet_short)
    (unless (eqb (get_or s 0 0 / 64) 2) (Err version)
    (unless (eqb (get_or s 1 0) 207) (Err packet_type)
    (unless (size_fits extent (size_in s) (length s)) (Err packet_length)
    (unless (eqb (get_or s 0 0 / 32 % 2) 0) (Err padding)
    (Ok (record { sender = be32 s 4; size = size_in s }))))))

pub data Packet : Type 0 where
  good : ℕ → List Entry → Packet
  bad : Refusal → Packet

-- refusal 6 is judged over the whole packet, and inside it only
abbrev pub of_frames : ℕ → Frames → Packet
of_frames sender (whole es) = good sender es
of_frames sender (past offset) = bad (block_past_end offset)

abbrev pub framed : Result Header Refusal → List ℕ → Packet
framed (Err r) s = bad r
framed (Ok header) s = of_frames header.sender (frames_in s first_block header.size)

-- the packet that is s, or that stands at the front of s
unfoldable pub packet_in : Extent → List ℕ → Packet
packet_in extent s = framed (header_of extent s) s

abbrev pub packet_of : List ℕ → Packet
packet_of s = packet_in Whole s

abbrev pub front_packet : List ℕ → Packet
front_packet s = packet_in Front s

-- block number k of a list, or none
unfoldable pub numbered : List Entry → ℕ → Option Entry
numbered [] k = None
numbered (e ∷ es) zero = Some e
numbered (e ∷ es) (suc k) = numbered es k

-- its place, none where there is no such block
abbrev pub place_or_none : Option Entry → Option ℕ
place_or_none None = None
place_or_none (Some e) = Some e.place

abbrev pub place_at : List Entry → ℕ → Option ℕ
place_at es k = place_or_none (numbered es k)

-- the same as a number, 0 where there is no such block
abbrev pub place_in : Option Entry → ℕ
place_in None = 0
place_in (Some e) = e.place

abbrev pub place_of : List Entry → ℕ → ℕ
place_of es k = place_in (numbered es k)

-- what a walk over all blocks finds: how many there are and the place of block k, or the block that runs past
abbrev pub walked_of : Frames → ℕ → Result Walked ℕ
walked_of (whole es) k = Ok (record { count = length es; at = place_at es k })
walked_of (past offset) k = Err offset

-- a packet judged, and block k located in it: the sender, the number of blocks and the place of block k
abbrev pub located_of : Packet → ℕ → Result Located Refusal
located_of (good sender es) k = Ok (record { sender = sender; count = length es; at = place_at es k })
located_of (bad r) k = Err r
