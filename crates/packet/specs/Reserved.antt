-- Packets that differ in reserved bits alone: document 01, "Reserved bits are ignored when read". Proved in proofs/.
use Rattle.std.specs.Prelude.{ℕ, ◌/◌, ◌<◌, ◌≤◌, ◌≡◌, List, [], ◌∷◌, length, get_or}
use Rattle.block.specs.Reserved.{cleared_byte, cleared_body}
use Rattle.frame.specs.Frames.{Entry, body_length, entry_at, first_block}
use Rattle.frame.specs.Packet.{Packet, good, bad, packet_of, place_of}
use Rattle.packet.specs.Answers.{head_of, block_of, part_of}

-- a block, and a packet's blocks, with their reserved bits made zero
abbrev pub cleared : Entry → Entry
cleared e = record { kind = e.kind; specific = cleared_byte e.kind e.specific; place = e.place; body = cleared_body e.kind e.body }

unfoldable pub cleared_all : List Entry → List Entry
cleared_all [] = []
cleared_all (e ∷ es) = cleared e ∷ cleared_all es

abbrev pub cleared_packet : Packet → Packet
cleared_packet (good sender es) = good sender (cleared_all es)
cleared_packet (bad r) = bad r

-- the same sender and number of blocks, the same answer for every block, D4 too, and bodies at the same place
pub record Same (p p' : Packet) : Type 0 where
  pub head : head_of p ≡ head_of p'
  pub block : (k : ℕ) → block_of p k ≡ block_of p' k
  pub part : (k : ℕ) → part_of p k ≡ part_of p' k

-- Packets that are equal once cleared are read alike.
abbrev pub ReservedInPacket : Type 0
ReservedInPacket = (p p' : Packet) → cleared_packet p ≡ cleared_packet p' → Same p p'

-- The same of bytes: s' is as long as s, has its first eight bytes but for the five low bits of the first, and, at the
-- place of each block of s, a block of the same length that is equal to it once both are cleared.
pub record Alike (s s' : List ℕ) (es : List Entry) : Type 0 where
  pub long : length s ≡ length s'
  pub first : get_or s 0 0 / 32 ≡ get_or s' 0 0 / 32
  pub header : (i : ℕ) → 1 ≤ i → i < first_block → get_or s i 0 ≡ get_or s' i 0
  pub size : (k : ℕ) → k < length es → body_length s (place_of es k) ≡ body_length s' (place_of es k)
  pub block : (k : ℕ) → k < length es → cleared (entry_at s (place_of es k)) ≡ cleared (entry_at s' (place_of es k))

abbrev pub ReservedBytes : Type 0
ReservedBytes =
    (s s' : List ℕ) (sender : ℕ) (es : List Entry) → packet_of s ≡ good sender es → Alike s s' es → Same (packet_of s) (packet_of s')
