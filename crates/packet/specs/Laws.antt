-- What callers may lean on, as statements about the definitions that the calls promise. Proved in proofs/.
use Rattle.std.specs.Prelude.{ℕ, ◌+◌, ◌≤◌, ◌≡◌, true, false, ◌⊎◌, List, ◌∷◌, ◌++◌, length, take, drop, Some, Err}
use Rattle.refusal.specs.Table.{no_such_block}
use Rattle.block.specs.Reading.{needs_of}
use Rattle.block.specs.declared.Measurement.{Measurement}
use Rattle.block.specs.declared.Block.{Block}
use Rattle.block.specs.declared.Block.TheVariants.{Measured}
use Rattle.block.specs.declared.BlockRead.TheVariants.{Typed, Dropped}
use Rattle.frame.specs.Frames.{Entry}
use Rattle.frame.specs.Packet.{Packet, good, packet_of}
use Rattle.packet.specs.Blocks.{read_alone, measures, measured, read_in}
use Rattle.packet.specs.Answers.{sent, head_of, answered, block_of, body_of, body_start}
use Rattle.block.specs.declared.Reason.TheVariants.{Unmeasured as Reason-as-Unmeasured}

-- In a packet a block reads as by itself, but for D4.
abbrev pub OwnButUnmeasured : Type 0
OwnButUnmeasured = (es : List Entry) (e : Entry) → (read_in es e ≡ read_alone e) ⊎ (read_in es e ≡ Dropped Reason-as-Unmeasured)

-- D4 exactly where a typed block needs a measurement of its source that stands nowhere in the packet.
pub record Unmeasured (es : List Entry) (e : Entry) : Type 0 where
  pub block : Block
  pub source : ℕ
  pub typed : read_alone e ≡ Typed block
  pub needs : needs_of block ≡ Some source
  pub nowhere : measured source es ≡ false

abbrev pub UnmeasuredExactly : Type 0
UnmeasuredExactly = (es : List Entry) (e : Entry) → (read_in es e ≡ Dropped Reason-as-Unmeasured → Unmeasured es e) × (Unmeasured es e → read_in es e ≡ Dropped Reason-as-Unmeasured)

-- "anywhere in the packet, before or after": one well-sized block 14 of a source is enough, wherever it stands.
abbrev pub MeasuredAnywhere : Type 0
MeasuredAnywhere = (source : ℕ) (front back : List Entry) (e : Entry) → measures source e ≡ true → measured source (front ++ e ∷ back) ≡ true

-- A source is measured in a packet exactly where one of its blocks, asked for by index, is a typed 14 for that source.
pub record MeasuredAt (p : Packet) (source : ℕ) : Type 0 where
  pub index : ℕ
  pub type : ℕ
  pub block : Measurement
  pub is : block_of p index ≡ answered type (Typed (Measured block))
  pub names : block.source ≡ source

abbrev pub MeasuredExactly : Type 0
MeasuredExactly = (sender : ℕ) (es : List Entry) (source : ℕ) → (measured source es ≡ true → MeasuredAt (good sender es) source) × (MeasuredAt (good sender es) source → measured source es ≡ true)

-- The body is the part of the packet that its start and length give, for any bytes and any index.
pub record PartIs (s : List ℕ) (k : ℕ) : Type 0 where
  pub fits : body_start (packet_of s) k + length (body_of (packet_of s) k) ≤ length s
  pub body : take (length (body_of (packet_of s) k)) (drop (body_start (packet_of s) k) s) ≡ body_of (packet_of s) k

abbrev pub BodyIsPart : Type 0
BodyIsPart = (s : List ℕ) (k : ℕ) → PartIs s k

-- Refusal 7 exactly where the packet is good and k is at least the number of blocks that `head` gives.
pub record Absent (s : List ℕ) (k : ℕ) : Type 0 where
  pub sender : ℕ
  pub count : ℕ
  pub head : head_of (packet_of s) ≡ sent sender count
  pub past : count ≤ k

abbrev pub AbsentExactly : Type 0
AbsentExactly = (s : List ℕ) (k : ℕ) → (block_of (packet_of s) k ≡ Err no_such_block → Absent s k) × (Absent s k → block_of (packet_of s) k ≡ Err no_such_block)
