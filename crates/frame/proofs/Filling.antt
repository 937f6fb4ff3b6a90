-- What a packet's list of blocks says of its bytes, and back: `BlocksFill`, `PacketExactly` and `PastExactly` of
-- specs/Laws.antt; and blocks that fill one part behind another. Assumes nothing.
use Prim.Native.Nat.{ℕ, zero, suc, ◌<◌, ◌≤◌}
use mathlib.Core.Path.{◌≡◌, refl, sym, ap, ◌∙◌}
use mathlib.Core.List.{List, [], ◌∷◌, ◌++◌}
use native.Mathlib.Omega.{arith}
use Rattle.std.proofs.Common.{Result, Ok, Err}
use native.Mathlib.Decide.{dec_lt, dec_le}
use Rattle.refusal.specs.Table.{block_past_end, refusal_number}
use Rattle.refusal.specs.declared.Refusal.{Refusal}
use Rattle.frame.specs.declared.Extent.{Extent}
use Rattle.frame.specs.declared.Header.{Header}
use Rattle.frame.specs.Frames.{Entry, Frames, whole, past, before, next_at, entry_at, first_block, frames_from, frames_in}
use Rattle.frame.specs.Packet.{good, bad, of_frames, framed, header_of, packet_in}
use Rattle.frame.specs.Laws.{Fill, BlocksFill, Leads, BlocksPast, IsPacket, PacketExactly, RunsPast, PastExactly}
use Rattle.frame.proofs.FirstBytes.{read_as, head_bounds, head_numbers}
use Rattle.frame.proofs.Stepping.{first_of, at_next, at_past, at_end, frames_end, frames_past, frames_next}

pub fill_up : (s : List ℕ) (es : List Entry) (at to : ℕ) → Fill s at to es → at ≤ to
fill_up s [] at to f = omega (arith, f)
fill_up s (e ∷ es) at to f = let rest = fill_up s es (next_at s at) to f.1 in omega arith

pub fill_append : (s : List ℕ) (es fs : List Entry) (at mid to : ℕ) → Fill s at mid es → Fill s mid to fs → Fill s at to (es ++ fs)
fill_append s [] fs at mid to f g = rw f g
fill_append s (e ∷ es) fs at mid to f g = (f.0, fill_append s es fs (next_at s at) mid to f.1 g)

-- whole blocks fill the bytes
fills : (s : List ℕ) (es : List Entry) (at to : ℕ) → at ≤ to → frames_in s at to ≡ whole es → Fill s at to es
fills s [] at to h w = go (dec_lt at to)
  where
    go : Dec (at < to) → at ≡ to
    go (yes l) =
        let none = (first_of s at to [] l w).first in
        let z : ◌≡◌ {A = ℕ} 0 1 = cc in
        absurd (omega arith)
    go (no l) = omega arith
fills s (e ∷ es) at to h w = go (dec_lt at to) (fills s es (next_at s at) to)
  where
    go : Dec (at < to) → (next_at s at ≤ to → frames_in s (next_at s at) to ≡ whole es → Fill s (next_at s at) to es) → Fill s at to (e ∷ es)
    go (yes l) rest =
        let f = first_of s at to (e ∷ es) l w in
        let both = f.first in
        let same : f.rest ≡ es = cc in
        (cc, rest f.fits (f.after ∙ ap whole same))
    go (no l) rest =
        let none = sym (at_end s at to (omega arith)) ∙ w in
        let z : ◌≡◌ {A = ℕ} 0 1 = cc in
        absurd (omega arith)

pub full : (s : List ℕ) (es : List Entry) (at to : ℕ) → Fill s at to es → frames_in s at to ≡ whole es
full s [] at to f = at_end s at to (omega (arith, f))
full s (e ∷ es) at to f =
    let fits = fill_up s es (next_at s at) to f.1 in
    at_next s at to (omega arith) fits ∙ ap (before (entry_at s at)) (full s es (next_at s at) to f.1) ∙ ap (λ (x : Entry). whole (x ∷ es)) (sym f.0)

pub blocks_fill : BlocksFill
blocks_fill s at to es h = (fills s es at to h, full s es at to)

-- a packet's blocks
made : (extent : Extent) (s : List ℕ) (sender : ℕ) (es : List Entry) → packet_in extent s ≡ good sender es → IsPacket extent s sender es
unfolding packet_in
made extent s sender es p = go (header_of extent s) refl p
  where
    within : (from size : ℕ) (frames : Frames) → header_of extent s ≡ read_as from size → frames_in s first_block size ≡ frames → of_frames from frames ≡ good sender es → IsPacket extent s sender es
    within from size (whole fs) h f e =
        let same : from ≡ sender = cc in
        let blocks : fs ≡ es = cc in
        record { size = size; header = rw (← same) h; fill = fills s es first_block size (head_bounds extent s from size h).0 (f ∙ ap whole blocks) }
    within from size (past offset) h f e = let z : ◌≡◌ {A = ℕ} 0 1 = cc in absurd (omega arith)

    go : (header : Result Header Refusal) → header_of extent s ≡ header → framed header s ≡ good sender es → IsPacket extent s sender es
    go (Ok header) h e = within header.sender header.size (frames_in s first_block header.size) h refl e
    go (Err r) h e = let z : ◌≡◌ {A = ℕ} 0 1 = cc in absurd (omega arith)

pub packet_exactly : PacketExactly
unfolding packet_in
packet_exactly extent s sender es =
    (made extent s sender es, λ m. rw (m.header, full s es first_block m.size m.fill))

-- a block that runs past the end, seen from a place before it
leads : (most : ℕ) (s : List ℕ) (at to offset : ℕ) → frames_from most s at to ≡ past offset → Leads s at to offset
unfolding frames_from
leads zero s at to offset w = let z : ◌≡◌ {A = ℕ} 0 1 = cc in absurd (omega arith)
leads (suc most) s at to offset w = go (dec_lt at to) (dec_le (next_at s at) to) (leads most s (next_at s at) to offset)
  where
    behind : (frames : Frames) → frames_from most s (next_at s at) to ≡ frames → before (entry_at s at) frames ≡ past offset →
        (frames_from most s (next_at s at) to ≡ past offset → Leads s (next_at s at) to offset) → Leads s at to offset
    behind (whole es) e b rest = let z : ◌≡◌ {A = ℕ} 0 1 = cc in absurd (omega arith)
    behind (past o) e b rest =
        let r = rest (e ∙ b) in
        record { blocks = entry_at s at ∷ r.blocks; filled = (refl, r.filled); starts = r.starts; ends = r.ends }

    go : Dec (at < to) → Dec (next_at s at ≤ to) → (frames_from most s (next_at s at) to ≡ past offset → Leads s (next_at s at) to offset) → Leads s at to offset
    go (no outside) d rest =
        let none = sym (frames_end (suc most) s at to (omega arith)) ∙ w in
        let z : ◌≡◌ {A = ℕ} 0 1 = cc in
        absurd (omega arith)
    go (yes inside) (no over) rest =
        let at_once = sym (frames_past most s at to inside (omega arith)) ∙ w in
        let same : at ≡ offset = cc in
        rw (← same) (record { blocks = []; filled = refl; starts = inside; ends = omega arith })
    go (yes inside) (yes fits) rest = behind (frames_from most s (next_at s at) to) refl (sym (frames_next most s at to inside fits) ∙ w) rest

-- and back
runs : (s : List ℕ) (es : List Entry) (at to offset : ℕ) → Fill s at offset es → offset < to → to < next_at s offset → frames_in s at to ≡ past offset
runs s [] at to offset f starts ends = rw f (at_past s offset to starts ends)
runs s (e ∷ es) at to offset f starts ends =
    let low = fill_up s es (next_at s at) offset f.1 in
    at_next s at to (omega arith) (omega arith) ∙ ap (before (entry_at s at)) (runs s es (next_at s at) to offset f.1 starts ends)

pub blocks_past : BlocksPast
blocks_past s at to offset = (leads to s at to offset, λ l. runs s l.blocks at to offset l.filled l.starts l.ends)

past_means : (extent : Extent) (s : List ℕ) (offset : ℕ) → packet_in extent s ≡ bad (block_past_end offset) → RunsPast extent s offset
unfolding packet_in
past_means extent s offset p = go (header_of extent s) refl p
  where
    within : (sender size : ℕ) (frames : Frames) → header_of extent s ≡ read_as sender size → frames_in s first_block size ≡ frames → of_frames sender frames ≡ bad (block_past_end offset) → RunsPast extent s offset
    within sender size (whole es) h f e = let z : ◌≡◌ {A = ℕ} 0 1 = cc in absurd (omega arith)
    within sender size (past o) h f e =
        let refusals : block_past_end o ≡ block_past_end offset = cc in
        let same : o ≡ offset = cc in
        record { sender = sender; size = size; header = h; leads = leads size s first_block size offset (f ∙ ap past same) }

    go : (header : Result Header Refusal) → header_of extent s ≡ header → framed header s ≡ bad (block_past_end offset) → RunsPast extent s offset
    go (Ok header) h e = within header.sender header.size (frames_in s first_block header.size) h refl e
    go (Err r) h e =
        let same : r ≡ block_past_end offset = cc in
        let few = head_numbers extent s r h in
        let six = ap refusal_number same in
        absurd (omega arith)

-- a refused packet has one of the refusals 1 to 6
pub packet_numbers : (extent : Extent) (s : List ℕ) (r : Refusal) → packet_in extent s ≡ bad r → refusal_number r ≤ 6
unfolding packet_in
packet_numbers extent s r p = go (header_of extent s) refl p
  where
    within : (sender : ℕ) (frames : Frames) → of_frames sender frames ≡ bad r → refusal_number r ≤ 6
    within sender (whole es) e = let z : ◌≡◌ {A = ℕ} 0 1 = cc in absurd (omega arith)
    within sender (past offset) e =
        let same : block_past_end offset ≡ r = cc in
        let six = ap refusal_number same in
        omega arith

    go : (header : Result Header Refusal) → header_of extent s ≡ header → framed header s ≡ bad r → refusal_number r ≤ 6
    go (Ok header) h e = within header.sender (frames_in s first_block header.size) e
    go (Err q) h e =
        let same : q ≡ r = cc in
        let few = head_numbers extent s r (h ∙ ap Err same) in
        omega arith

pub past_exactly : PastExactly
unfolding packet_in
past_exactly extent s offset =
    (past_means extent s offset, λ r. rw (r.header, (blocks_past s first_block r.size offset).1 r.leads))
