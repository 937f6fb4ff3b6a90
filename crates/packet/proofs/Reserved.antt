-- Reserved bits are ignored: clearing a packet's blocks changes no answer, so packets that are equal once cleared are read
-- alike; and so are bytes. `ReservedInPacket` and `ReservedBytes` of specs/Reserved.antt. Assumes nothing.
use Prim.Native.Nat.{ℕ, zero, suc, ◌+◌, ◌*◌, ◌<◌, ◌≤◌}
use mathlib.Core.Path.{◌≡◌, refl, sym, ap, ap₂, ◌∙◌}
use mathlib.Core.List.{List, [], ◌∷◌}
use native.Mathlib.Omega.{arith}
use lib.ListN.{length, get_or}
use Rattle.wire.specs.BigEndian.{be16, be32}
use Rattle.block.specs.Reading.{needs_of}
use Rattle.block.specs.declared.BlockRead.{BlockRead}
use Rattle.block.specs.declared.BlockRead.TheVariants.{Typed, Rle, Unknown, Dropped}
use Rattle.block.proofs.Reserved.{read_cleared, cleared_size}
use Rattle.frame.specs.declared.Extent.TheVariants.{Whole as Extent-as-Whole}
use Rattle.frame.specs.Frames.{Entry, next_at, entry_at, first_block}
use Rattle.frame.specs.Packet.{Packet, good, bad, numbered, place_of, size_in}
use Rattle.frame.specs.Laws.{Fill, IsPacket}
use Rattle.frame.proofs.FirstBytes.{Head, head_facts, head_good}
use Rattle.frame.proofs.Filling.{packet_exactly}
use Rattle.packet.specs.Blocks.{read_alone, measured, given, read_among, read_in}
use Rattle.packet.specs.Answers.{sent, head_of, found, block_of, body_in, start_in, part_of}
use Rattle.packet.specs.Reserved.{cleared, cleared_all, cleared_packet, Same, ReservedInPacket, ReservedBytes}
use Rattle.std.specs.Prelude.{Option, Some, None}

-- clearing changes no block by itself, none among others, and no place or size
pub clear_alone : (e : Entry) → read_alone (cleared e) ≡ read_alone e
unfolding read_alone
clear_alone e = read_cleared e.kind e.specific e.body

clear_measured : (source : ℕ) (es : List Entry) → measured source (cleared_all es) ≡ measured source es
unfolding measured cleared_all
clear_measured source [] = refl
clear_measured source (e ∷ es) = rw (clear_alone e, clear_measured source es)

pub clear_read : (es : List Entry) (e : Entry) → read_in (cleared_all es) (cleared e) ≡ read_in es e
clear_read es e = rw (clear_alone e) (go (read_alone e))
  where
    by_need : (needs : Option ℕ) (answer : BlockRead) → given (cleared_all es) needs answer ≡ given es needs answer
    by_need None answer = refl
    by_need (Some source) answer = rw (clear_measured source es)

    go : (own : BlockRead) → read_among (cleared_all es) own ≡ read_among es own
    go (Typed b) = by_need (needs_of b) (Typed b)
    go (Rle r) = refl
    go Unknown = refl
    go (Dropped reason) = refl

pub clear_length : (es : List Entry) → length (cleared_all es) ≡ length es
unfolding cleared_all
clear_length [] = refl
clear_length (e ∷ es) = ap suc (clear_length es)

abbrev cleared_one : Option Entry → Option Entry
cleared_one None = None
cleared_one (Some e) = Some (cleared e)

clear_number : (es : List Entry) (k : ℕ) → numbered (cleared_all es) k ≡ cleared_one (numbered es k)
unfolding numbered cleared_all
clear_number [] k = refl
clear_number (e ∷ es) zero = refl
clear_number (e ∷ es) (suc k) = clear_number es k

clear_same : (p : Packet) → Same (cleared_packet p) p
clear_same (bad r) = record { head = refl; block = λ k. refl; part = λ k. refl }
clear_same (good sender es) =
    record {
      head = ap (sent sender) (clear_length es);
      block = λ k. rw (clear_number es k) (block (numbered es k));
      part = λ k. let n = clear_number es k in λ i. record { start = (ap start_in n ∙ start (numbered es k)) i; length = (ap (λ (x : Option Entry). length (body_in x)) n ∙ size (numbered es k)) i };
    }
  where
    block : (n : Option Entry) → found (cleared_all es) (cleared_one n) ≡ found es n
    block None = refl
    block (Some e) = rw (clear_read es e)

    start : (n : Option Entry) → start_in (cleared_one n) ≡ start_in n
    start None = refl
    start (Some e) = refl

    size : (n : Option Entry) → length (body_in (cleared_one n)) ≡ length (body_in n)
    size None = refl
    size (Some e) = cleared_size e.kind e.body

pub reserved_in_packet : ReservedInPacket
reserved_in_packet p p' e =
    let a = clear_same p in
    let b = clear_same p' in
    record {
      head = sym a.head ∙ ap head_of e ∙ b.head;
      block = λ k. sym (a.block k) ∙ ap (λ (x : Packet). block_of x k) e ∙ b.block k;
      part = λ k. sym (a.part k) ∙ ap (λ (x : Packet). part_of x k) e ∙ b.part k;
    }

-- the blocks of bytes that are alike
record Filled (s : List ℕ) (at to : ℕ) (es : List Entry) : Type 0 where
  blocks : List Entry
  fill : Fill s at to blocks
  same : cleared_all es ≡ cleared_all blocks

alike : (s s' : List ℕ) (es : List Entry) (at to : ℕ) → Fill s at to es →
    ((k : ℕ) → k < length es → (next_at s (place_of es k) ≡ next_at s' (place_of es k)) × (cleared (entry_at s (place_of es k)) ≡ cleared (entry_at s' (place_of es k)))) → Filled s' at to es
unfolding cleared_all numbered entry_at
alike s s' [] at to f a = record { blocks = []; fill = f; same = refl }
alike s s' (e ∷ es) at to f a =
    let here = rw f.0 at (a zero (omega arith)) in
    let rest = alike s s' es (next_at s at) to f.1 (λ k h. a (suc k) (omega arith)) in
    record {
      blocks = entry_at s' at ∷ rest.blocks;
      fill = (refl, rw (← here.0) rest.fill);
      same = rw f.0 (ap₂ (λ (x : Entry) (l : List Entry). x ∷ l) here.1 rest.same);
    }

pub reserved_bytes : ReservedBytes
unfolding be16 be32
reserved_bytes s s' sender es p a =
    let m = (packet_exactly Extent-as-Whole s sender es).0 p in
    let f = head_facts Extent-as-Whole s sender m.size m.header in
    let new = alike s s' es first_block m.size m.fill (λ k h. (omega (arith, a.size k h), a.block k h)) in
    let first = a.first in
    let two = f.two in
    let plain = f.unpadded in
    let room = f.room in
    let long = a.long in
    let b : (i : ℕ) → 1 ≤ i → i < first_block → get_or s' i 0 ≡ get_or s i 0 = λ i l h. sym (a.header i l h) in
    let size : size_in s' ≡ size_in s = ap₂ (λ (x y : ℕ). 4 * (x * 256 + y + 1)) (b 2 (omega arith) (omega arith)) (b 3 (omega arith) (omega arith)) in
    let head : Head Extent-as-Whole s' sender m.size =
    record {
      room = omega arith;
      two = omega arith;
      type = b 1 (omega arith) (omega arith) ∙ f.type;
      fits = rw (size, ← long) f.fits;
      unpadded = omega arith;
      from = rw (b 4 (omega arith) (omega arith), b 5 (omega arith) (omega arith), b 6 (omega arith) (omega arith), b 7 (omega arith) (omega arith)) f.from;
      field = size ∙ f.field;
    } in
    let made : IsPacket Extent-as-Whole s' sender new.blocks = record { size = m.size; header = head_good Extent-as-Whole s' sender m.size head; fill = new.fill } in
    rw (p, (packet_exactly Extent-as-Whole s' sender new.blocks).1 made)
    (reserved_in_packet (good sender es) (good sender new.blocks) (ap (good sender) new.same))
