-- What callers may lean on, as statements about the definitions that the calls promise. Proved in proofs/.
use Rattle.std.specs.Prelude.{ℕ, ◌+◌, ◌/◌, ◌<◌, ◌≤◌, ◌≡◌, List, [], ◌∷◌, length, get_or, drop, set, Ok}
use Rattle.refusal.specs.Table.{block_past_end}
use Rattle.frame.specs.declared.Extent.{Extent}
use Rattle.frame.specs.Frames.{Entry, whole, past, body_length, next_at, entry_at, block_at, first_block, frames_in}
use Rattle.frame.specs.Packet.{good, bad, header_of, packet_in}

-- A whole block as the part that is handed out: as long as the way to the next block, its type, type-specific byte and body
-- those of the entry there.
pub record BlockBytes (s : List ℕ) (at : ℕ) (bytes : List ℕ) : Type 0 where
  pub long : length bytes ≡ 4 + body_length s at
  pub kind : get_or bytes 0 0 ≡ (entry_at s at).kind
  pub specific : get_or bytes 1 0 ≡ (entry_at s at).specific
  pub body : drop 4 bytes ≡ (entry_at s at).body

abbrev pub BlockAt : Type 0
BlockAt = (s : List ℕ) (at : ℕ) → next_at s at ≤ length s → BlockBytes s at (block_at s at)

-- The five low bits of a packet's first byte, reserved, do not change what is read, also where it is refused.
abbrev pub ReservedFirst : Type 0
ReservedFirst = (extent : Extent) (s : List ℕ) (b : ℕ) → b / 32 ≡ get_or s 0 0 / 32 → packet_in extent (set s 0 b) ≡ packet_in extent s

-- blocks one behind the other fill the bytes from `at` to `to`
abbrev pub Fill : List ℕ → ℕ → ℕ → List Entry → Type 0
Fill s at to [] = at ≡ to
Fill s at to (e ∷ es) = (e ≡ entry_at s at) × Fill s (next_at s at) to es

-- "Then blocks fill the rest": the list is whole exactly where its blocks fill the bytes.
abbrev pub BlocksFill : Type 0
BlocksFill =
    (s : List ℕ) (at to : ℕ) (es : List Entry) → at ≤ to →
    (frames_in s at to ≡ whole es → Fill s at to es) × (Fill s at to es → frames_in s at to ≡ whole es)

-- whole blocks from `at` on lead to a block at `offset`, which starts before `to` and ends past it
pub record Leads (s : List ℕ) (at to offset : ℕ) : Type 0 where
  pub blocks : List Entry
  pub filled : Fill s at offset blocks
  pub starts : offset < to
  pub ends : to < next_at s offset

abbrev pub BlocksPast : Type 0
BlocksPast = (s : List ℕ) (at to offset : ℕ) → (frames_in s at to ≡ past offset → Leads s at to offset) × (Leads s at to offset → frames_in s at to ≡ past offset)

-- a packet with these blocks: a good header, and blocks that fill the size that it names
pub record IsPacket (extent : Extent) (s : List ℕ) (sender : ℕ) (es : List Entry) : Type 0 where
  pub size : ℕ
  pub header : header_of extent s ≡ Ok (record { sender = sender; size = size })
  pub fill : Fill s first_block size es

abbrev pub PacketExactly : Type 0
PacketExactly =
    (extent : Extent) (s : List ℕ) (sender : ℕ) (es : List Entry) →
    (packet_in extent s ≡ good sender es → IsPacket extent s sender es) × (IsPacket extent s sender es → packet_in extent s ≡ good sender es)

-- "a block runs past the end", at that block's offset: a good header, and whole blocks that lead to it.
pub record RunsPast (extent : Extent) (s : List ℕ) (offset : ℕ) : Type 0 where
  pub sender : ℕ
  pub size : ℕ
  pub header : header_of extent s ≡ Ok (record { sender = sender; size = size })
  pub leads : Leads s first_block size offset

abbrev pub PastExactly : Type 0
PastExactly =
    (extent : Extent) (s : List ℕ) (offset : ℕ) →
    (packet_in extent s ≡ bad (block_past_end offset) → RunsPast extent s offset) × (RunsPast extent s offset → packet_in extent s ≡ bad (block_past_end offset))
