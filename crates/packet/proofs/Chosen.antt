-- The answers for block number k of a packet in which it was located: those of the block at its place where there is
-- one, and otherwise none. With the laws `BodyIsPart` and `AbsentExactly` of specs/Laws.antt. Assumes nothing.
use Prim.Native.Nat.{ℕ, ◌+◌, ◌-◌, ◌<◌, ◌≤◌}
use mathlib.Core.Path.{◌≡◌, refl, sym, ap}
use mathlib.Core.List.{List}
use native.Mathlib.Omega.{arith}
use native.Mathlib.Decide.{dec_le, dec_lt}
use Rattle.std.proofs.Common.{Some, None, Ok, Err}
use lib.ListN.{length, get_or, take, drop, length-drop}
use lib.Seq.{length-take-le}
use Rattle.refusal.specs.Table.{no_such_block, refusal_number}
use Rattle.frame.specs.declared.Extent.TheVariants.{Whole as Extent-as-Whole}
use Rattle.block.specs.Reading.{read_bytes}
use Rattle.block.specs.declared.BlockRead.{BlockRead}
use Rattle.frame.specs.Frames.{Entry, next_at, body_length, entry_at, block_at, first_block}
use Rattle.frame.specs.declared.Located.{Located}
use Rattle.frame.specs.Packet.{Packet, good, bad, numbered, place_of, packet_of, located_of}
use Rattle.frame.proofs.Blocks.{block_bytes_lem}
use Rattle.frame.proofs.Filling.{packet_numbers}
use Rattle.frame.proofs.Locating.{Here, located}
use Rattle.frame.proofs.Numbering.{Stands, stands, number_none, place_some, place_none, packet_fill, packet_frames}
use Rattle.packet.specs.declared.PacketHead.{PacketHead}
use Rattle.packet.specs.declared.Part.{Part}
use Rattle.packet.specs.Blocks.{read_among, read_in}
use Rattle.packet.specs.Answers.{sent, head_of, answered, chosen, found, block_of, body_of, part_of}
use Rattle.packet.specs.Steps.{blocks_of, WholeBlocks}
use Rattle.packet.specs.Laws.{PartIs, BodyIsPart, Absent, AbsentExactly}
use Rattle.packet.proofs.Measuring.{read_at}

module _ (s : List ℕ) (sender : ℕ) (es : List Entry) (p : packet_of s ≡ good sender es) where
  pub blocks_are : blocks_of s ≡ es
  blocks_are = rw (packet_frames s sender es p)

  pub blocks_whole : WholeBlocks s
  blocks_whole = rw (packet_frames s sender es p)

  block_stands : (k : ℕ) → k < length es → Stands s first_block (length s) es k
  block_stands k h = stands s es first_block (length s) k (packet_fill s sender es p) h

  number_past : (k : ℕ) → length es ≤ k → chosen (packet_of s) k ≡ None
  number_past k h = rw p (number_none es k h)

-- the body of the block at a place inside
pub body_long : (s : List ℕ) (at : ℕ) → next_at s at ≤ length s → length (entry_at s at).body ≡ body_length s at
unfolding entry_at
body_long s at h = length-take-le (body_length s at) (drop (at + 4) s) (rw (length-drop (at + 4) s) (omega arith))

-- of a packet in which block k was located
module _ (s : List ℕ) (k sender count at : ℕ) (o : Here Extent-as-Whole s k sender count (Some at)) where
  stand : (k < length o.blocks) × (at ≡ place_of o.blocks k)
  stand = place_some o.blocks k at (sym o.stands)

  place : Stands s first_block (length s) o.blocks k
  place = block_stands s sender o.blocks o.packet k stand.0

  pub located_fits : next_at s at ≤ length s
  located_fits = rw stand.1 place.ends

  pub located_block : chosen (packet_of s) k ≡ Some (entry_at s at)
  located_block = rw (o.packet, stand.1) place.entry

  located_read : answered (entry_at s at).kind (read_in (blocks_of s) (entry_at s at)) ≡ block_of (packet_of s) k
  located_read =
      let e : numbered o.blocks k ≡ Some (entry_at s at) = rw o.packet at located_block in
      rw (o.packet, blocks_are s sender o.blocks o.packet, e)

  -- the bytes of the block, read and judged; and where its body lies
  module _ (bytes : List ℕ) (b : bytes ≡ block_at s at) where
    pub located_answer : (own answer : BlockRead) → own ≡ read_bytes bytes → answer ≡ read_among (blocks_of s) own → answered (get_or bytes 0 0) answer ≡ block_of (packet_of s) k
    located_answer own answer r j =
        rw (j, r, b, (block_bytes_lem s at located_fits).kind, read_at s at located_fits) located_read

    pub located_part : ◌≡◌ {A = Part} (record { start = at + 4; length = length bytes - 4 }) (part_of (packet_of s) k)
    unfolding entry_at
    located_part =
        let l = (block_bytes_lem s at located_fits).long in
        let size : length bytes - 4 ≡ length (entry_at s at).body = rw b (omega (arith, body_long s at located_fits)) in
        rw (located_block, size)

    pub located_body : drop 4 bytes ≡ body_of (packet_of s) k
    located_body = rw (located_block, b) (block_bytes_lem s at located_fits).body

-- a packet in which block k was located at a place, and at none
pub here_at : (s : List ℕ) (k at : ℕ) (l : Located) → located_of (packet_of s) k ≡ Ok l → l.at ≡ Some at → Here Extent-as-Whole s k l.sender l.count (Some at)
here_at s k at l o e = rw (← e) (located Extent-as-Whole s k l.sender l.count l.at o)

pub here_none : (s : List ℕ) (k : ℕ) (l : Located) → located_of (packet_of s) k ≡ Ok l → l.at ≡ None → Here Extent-as-Whole s k l.sender l.count None
here_none s k l o e = rw (← e) (located Extent-as-Whole s k l.sender l.count l.at o)

module _ (s : List ℕ) (k sender count : ℕ) (o : Here Extent-as-Whole s k sender count None) where
  located_none : chosen (packet_of s) k ≡ None
  located_none = number_past s sender o.blocks o.packet k (place_none o.blocks k (sym o.stands))

  pub located_absent : Err no_such_block ≡ block_of (packet_of s) k
  located_absent =
      let e : numbered o.blocks k ≡ None = rw o.packet at located_none in
      rw (o.packet, e)

pub part_is : BodyIsPart
unfolding entry_at
part_is s k = go (packet_of s) refl
  where
    empty : chosen (packet_of s) k ≡ None → PartIs s k
    empty e = record { fits = rw e (omega arith); body = rw e }

    inside : (at : ℕ) → next_at s at ≤ length s → chosen (packet_of s) k ≡ Some (entry_at s at) → PartIs s k
    inside at h e =
        let size = body_long s at h in
        record { fits = rw e (omega arith); body = rw e (ap (λ (n : ℕ). take n (drop (at + 4) s)) size) }

    go : (packet : Packet) → packet_of s ≡ packet → PartIs s k
    go (bad r) p = empty (rw p)
    go (good sender es) p = by (dec_lt k (length es))
      where
        by : Dec (k < length es) → PartIs s k
        by (yes h) = let st = block_stands s sender es p k h in inside (place_of es k) st.ends (rw p st.entry)
        by (no h) = empty (number_past s sender es p k (omega arith))

pub absent_exactly : AbsentExactly
absent_exactly s k = (go (packet_of s) refl, λ a. back a (packet_of s) refl a.head)
  where
    within : (sender : ℕ) (es : List Entry) → packet_of s ≡ good sender es → Dec (length es ≤ k) → found es (numbered es k) ≡ Err no_such_block → Absent s k
    within sender es p (yes h) r = record { sender = sender; count = length es; head = rw p; past = h }
    within sender es p (no h) r =
        let st = block_stands s sender es p k (omega arith) in
        let e : found es (Some (entry_at s (place_of es k))) ≡ Err no_such_block = rw st.entry at r in
        let z : ◌≡◌ {A = ℕ} 0 1 = cc in
        absurd (omega arith)

    go : (packet : Packet) → packet_of s ≡ packet → block_of (packet_of s) k ≡ Err no_such_block → Absent s k
    go (good sender es) p r = within sender es p (dec_le (length es) k) (rw p at r)
    go (bad q) p r =
        let same : q ≡ no_such_block = let e : Err q ≡ Err no_such_block = rw p at r in cc in
        let few = packet_numbers Extent-as-Whole s q p in
        let seven = ap refusal_number same in
        absurd (omega arith)

    back : (a : Absent s k) (packet : Packet) → packet_of s ≡ packet → head_of (packet_of s) ≡ sent a.sender a.count → block_of (packet_of s) k ≡ Err no_such_block
    back a (good sender es) p h =
        let e : sent sender (length es) ≡ sent a.sender a.count = rw p at h in
        let same : ◌≡◌ {A = PacketHead} (record { sender = sender; blocks = length es }) (record { sender = a.sender; blocks = a.count }) = cc e in
        let n = ap (λ (x : PacketHead). x.blocks) same in
        let past = a.past in
        rw (p, number_none es k (omega arith))
    back a (bad q) p h =
        let e = rw p at h in
        let z : ◌≡◌ {A = ℕ} 0 1 = cc in
        absurd (omega arith)
