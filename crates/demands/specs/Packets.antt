-- Report packets read and written as RFC 3611 frames them and the others lay their blocks out, said of the bytes and of
-- what the calls answer.
use Rattle.std.specs.Prelude.{ℕ, zero, suc, ◌+◌, ◌*◌, ◌≡◌, true, ◌↔◌, ◌⊎◌, List, [], length, get_or, drop, Some, Ok, Err}
use Rattle.refusal.specs.declared.Refusal.{Refusal}
use Rattle.wire.specs.BigEndian.{be16, be32}
use Rattle.block.specs.Reading.{read_bytes, needs_of}
use Rattle.block.specs.declared.Block.{Block}
use Rattle.block.specs.declared.BlockRead.{BlockRead}
use Rattle.block.specs.declared.BlockRead.TheVariants.{Typed, Dropped}
use Rattle.encode.specs.Words.{type_of, specific_of, body_words, bytes_of, writable}
use Rattle.encode.specs.Laws.{Fits, WrittenAgain}
use Rattle.frame.specs.Frames.{Entry, first_block, next_at, block_at}
use Rattle.frame.specs.Packet.{packet_of}
use Rattle.packet.specs.Answers.{head_of, block_of, body_of, body_start, answered, sent}
use Rattle.packet.specs.Laws.{MeasuredAt}
use Rattle.verdict.specs.Verdict.{verdict_of}
use Rattle.survey.specs.Survey.{list_of}
use Rattle.compose.specs.Laws.{after_add, NewRead, Add, Appended, AddedRead}
use Rattle.compare.specs.Laws.{ListedExactly, ContentsNumbered, EmptyExactly, SelfEmpty, ReservedEmpty, Turned, RoomEnough}
use Rattle.demands.specs.Places.{block_length, IsBlock}
use Rattle.block.specs.declared.Reason.TheVariants.{Unmeasured}

-- where block number k stands: the first at byte 8, each next one where the block before it ends
unfoldable pub offset : List ℕ → ℕ → ℕ
offset s zero = first_block
offset s (suc k) = next_at s (offset s k)

-- Block k as the call answers it: the type that stands there, read as those bytes by themselves are, but for D4; its body
-- begins four bytes further on; and in the list of all blocks it has its place and verdict.
pub record BlockFound (s : List ℕ) (k type : ℕ) (r : BlockRead) : Type 0 where
  pub type_is : type ≡ get_or s (offset s k) 0
  pub own : (r ≡ read_bytes (block_at s (offset s k))) ⊎ (r ≡ Dropped Unmeasured)
  pub body : (body_start (packet_of s) k ≡ offset s k + 4) × (body_of (packet_of s) k ≡ drop 4 (block_at s (offset s k)))
  pub listed : (get_or (list_of (packet_of s)) (2 * k) 0 ≡ offset s k) × (get_or (list_of (packet_of s)) (2 * k + 1) 0 ≡ verdict_of r)

-- D4: it is typed by itself and needs a measurement of its source, and no block of the packet is a typed 14 for it.
pub record Lacking (s : List ℕ) (k : ℕ) : Type 0 where
  pub block : Block
  pub source : ℕ
  pub typed : read_bytes (block_at s (offset s k)) ≡ Typed block
  pub needs : needs_of block ≡ Some source
  pub nowhere : MeasuredAt (packet_of s) source → ⊥

pub record PacketsRead : Type 0 where
  -- the sender, and so many blocks, which fill the packet
  pub head : (s : List ℕ) (sender count : ℕ) → head_of (packet_of s) ≡ sent sender count → (sender ≡ be32 s 4) × (offset s count ≡ length s)
  pub block : (s : List ℕ) (k type : ℕ) (r : BlockRead) → block_of (packet_of s) k ≡ answered type r → BlockFound s k type r
  pub d4 : (s : List ℕ) (k type : ℕ) (r : BlockRead) → block_of (packet_of s) k ≡ answered type r → (r ≡ Dropped Unmeasured) ↔ Lacking s k
  -- the body of a refused block is empty
  pub no_body : (s : List ℕ) (k : ℕ) (r : Refusal) → block_of (packet_of s) k ≡ Err r → body_of (packet_of s) k ≡ []
  -- bytes are read as a typed block exactly where they are one
  pub typed : (s : List ℕ) (b : Block) → (read_bytes s ≡ Typed b) ↔ IsBlock s b

pub record PacketsWritten : Type 0 where
  pub new : NewRead
  -- an added block stands behind the others, and every other byte but the length field is as it was
  pub added : (s : List ℕ) (b : Block) (sender : ℕ) (es : List Entry) (n : ℕ) → Add s b sender es n →
      Appended s (after_add s b) (type_of b) (specific_of b) (body_words b) sender es n
  pub block : (b : Block) → Fits b → writable b ≡ true → IsBlock (bytes_of b) b
  pub block_length_lem : (b : Block) → be16 (bytes_of b) 2 ≡ block_length b
  -- reserved bits are zero
  pub reserved : WrittenAgain

-- by itself, and in the packet that it was added to
pub record BlocksAgain : Type 0 where
  pub by_itself : (b : Block) → Fits b → writable b ≡ true → read_bytes (bytes_of b) ≡ Typed b
  pub in_packet : AddedRead

-- two packets compared: each entry of the list is a difference and each difference has its entry, in order, of blocks as they are
-- read by number; the list is empty exactly where nothing differs, so for a packet with itself, and where reserved bits of typed blocks alone differ; the other
-- way round it has the same entries, turned; and how much room is always enough
pub record PacketsCompared : Type 0 where
  pub listed : ListedExactly
  pub contents : ContentsNumbered
  pub empty : EmptyExactly
  pub self : SelfEmpty
  pub reserved : ReservedEmpty
  pub turned : Turned
  pub room : RoomEnough
