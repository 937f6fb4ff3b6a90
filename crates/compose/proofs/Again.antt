-- A typed block of a packet written again: `WrittenAgainInPacket` of specs/Laws.antt. Assumes nothing.
use Prim.Native.Nat.{ℕ, ◌+◌, ◌*◌, ◌/◌, ◌%◌, ◌<◌, ◌≤◌}
use mathlib.Core.Path.{◌≡◌, refl, sym, ap, ◌∙◌}
use mathlib.Core.Bool.{Bool, true, false}
use mathlib.Core.Logic.{◌⊎◌, inl, inr}
use mathlib.Core.List.{List}
use native.Mathlib.Omega.{arith}
use native.Mathlib.Decide.{dec_lt}
use borrow.Author.Tests.{le-leb}
use native.Mathlib.Nat.{add_assoc}
use lib.Dec.{leb}
use lib.ListN.{length, get_or, take, drop, length-take, get_or-eq_default}
use lib.Seq.{get_or-take, get_or-drop}
use Rattle.refusal.specs.Table.{no_such_block, buffer_short, block_value, packet_full, refusal_number}
use Rattle.refusal.specs.Answer.{unless}
use Rattle.refusal.specs.declared.Refusal.{Refusal}
use Rattle.wire.specs.BigEndian.{be16, u16_at}
use Rattle.wire.proofs.Numbers.{u16_inside}
use Rattle.block.specs.Reserved.{cleared_byte, cleared_body, block_bytes, cleared_bytes}
use Rattle.block.specs.declared.Block.{Block}
use Rattle.block.specs.declared.BlockRead.TheVariants.{Typed, Dropped}
use Rattle.block.proofs.Reserved.{cleared_size}
use Rattle.encode.specs.Words.{type_of, specific_of, body_words, words_of, bytes_of, writable}
use Rattle.encode.proofs.Framing.{type_small, specific_small}
use Rattle.encode.specs.Laws.{Bytes}
use Rattle.encode.proofs.Again.{written_again, typed_writable}
use Rattle.frame.specs.declared.Extent.TheVariants.{Front}
use Rattle.frame.specs.Frames.{Entry, body_length, next_at, entry_at, block_at, first_block}
use Rattle.frame.specs.Packet.{Packet, good, bad, numbered, place_of, packet_of, front_packet, size_in}
use Rattle.frame.proofs.Blocks.{block_bytes_lem, one_block}
use Rattle.frame.proofs.Filling.{packet_numbers}
use Rattle.frame.proofs.Numbering.{stands, number_none, packet_fill}
use Rattle.packet.specs.Blocks.{read_alone, read_in}
use Rattle.packet.specs.Answers.{found, block_of, answered}
use Rattle.packet.proofs.Chosen.{body_long}
use Rattle.packet.proofs.Named.{answered_parts}
use Rattle.packet.proofs.Judging.{own_but_unmeasured}
use Rattle.compose.specs.Writing.{length_after, length_max, size_after, appended, append_answer, own_of, add_answer}
use Rattle.compose.specs.Laws.{after_add, Again, WrittenAgainInPacket}
use Rattle.compose.proofs.Adding.{fit}
use Rattle.compose.proofs.Growing.{added_good}
use Rattle.std.specs.Prelude.{Some, Ok, Err}
use Rattle.block.specs.declared.Reason.TheVariants.{Unmeasured}
use Rattle.refusal.specs.Answer.{Written}

-- a part of bytes is bytes
part_small : (s : List ℕ) (i n : ℕ) → Bytes s → Bytes (take n (drop i s))
part_small s i n small j = go (dec_lt j n)
  where
    go : Dec (j < n) → get_or (take n (drop i s)) j 0 < 256
    go (yes l) = rw (get_or-take n (drop i s) j 0 l, get_or-drop i s j 0) (small (i + j))
    go (no l) = rw (get_or-eq_default (take n (drop i s)) 0 {n = j} (omega (arith, length-take n (drop i s)))) (omega arith)

-- the bytes of a whole block, cleared
block_cleared : (s : List ℕ) (at : ℕ) → Bytes s → next_at s at ≤ length s →
    cleared_bytes (block_at s at) ≡ block_bytes (entry_at s at).kind (cleared_byte (entry_at s at).kind (entry_at s at).specific) (cleared_body (entry_at s at).kind (entry_at s at).body)
unfolding be16
block_cleared s at small fits =
    let b = block_bytes_lem s at fits in
    let field : u16_at s (at + 2) ≡ get_or s (at + 2) 0 * 256 + get_or s (at + 2 + 1) 0 = u16_inside s (at + 2) (omega arith) in
    let last : get_or s (at + 2 + 1) 0 ≡ get_or s (at + 3) 0 = ap (λ (i : ℕ). get_or s i 0) (add_assoc at 2 1) in
    let high = small (at + 2) in
    let low = small (at + 3) in
    let kind : ℕ = (entry_at s at).kind in
    let body : List ℕ = (entry_at s at).body in
    let words : length (cleared_body kind body) / 4 ≡ get_or s (at + 2) 0 * 256 + get_or s (at + 3) 0 = omega (arith, cleared_size kind body, body_long s at fits) in
    let two : length (cleared_body kind body) / 4 / 256 ≡ get_or (block_at s at) 2 0 = omega (arith, byte 2 (omega arith)) in
    let three : length (cleared_body kind body) / 4 % 256 ≡ get_or (block_at s at) 3 0 = omega (arith, byte 3 (omega arith)) in
    let long = b.long in
    rw (le-leb 4 (length (block_at s at)) (omega arith), b.kind, b.specific, b.body, ← two, ← three)
  where
    byte : (i : ℕ) → i < 4 → get_or (block_at s at) i 0 ≡ get_or s (at + i) 0
    byte i l = rw (one_block s at fits).0 (get_or-take (4 + body_length s at) (drop at s) i 0 (omega arith) ∙ get_or-drop at s i 0)

-- refusal 16 is for a block that may not be written
let_by : (b : Block) → writable b ≡ true → (out : List ℕ) → add_answer out b ≡ Err block_value → ⊥
unfolding append_answer
let_by b w out h = go (front_packet out) refl (rw w at h)
  where
    not_16 : (r : Refusal) → (refusal_number r ≡ 16 → ⊥) → ◌≡◌ {A = Written} (Err r) (Err block_value) → ⊥
    not_16 r other e = let same : r ≡ block_value = cc in other (ap refusal_number same)

    by : (few room : Bool) → unless few (Err packet_full) (unless room (Err buffer_short) (Ok (size_after out (length (words_of b))))) ≡ Err block_value → ⊥
    by false room e = not_16 packet_full (λ n. omega arith) e
    by true false e = not_16 buffer_short (λ n. omega arith) e
    by true true e = let z : ◌≡◌ {A = ℕ} 0 1 = cc in omega arith

    go : (p : Packet) → front_packet out ≡ p → appended (front_packet out) (Ok (tt {0})) out (length (words_of b)) ≡ Err block_value → ⊥
    go (bad r) p e = not_16 r (λ n. omega (arith, packet_numbers Front out r p)) (rw p at e)
    go (good sender es) p e = by (leb (length_after out (length (words_of b))) length_max) (leb (size_after out (length (words_of b))) (length out)) (rw p at e)

-- what an add leaves at the packet's end
last_bytes : (b : Block) (out : List ℕ) (n : ℕ) → add_answer out b ≡ Ok n → drop (size_in out) (take n (after_add out b)) ≡ bytes_of b
unfolding bytes_of
last_bytes b out n a =
    let f = fit out (own_of b) (length (words_of b)) n a in
    (added_good out (own_of b) (type_of b) (specific_of b) (body_words b) f.sender f.blocks n (record { type_fits = type_small b; specific_fits = specific_small b; packet = f.packet; answer = a })).bytes

pub written_in_packet : WrittenAgainInPacket
unfolding read_alone entry_at
written_in_packet s k type b small h = go (packet_of s) refl h
  where
    typed : (sender : ℕ) (es : List Entry) → packet_of s ≡ good sender es → (at : ℕ) → numbered es k ≡ Some (entry_at s at) → next_at s at ≤ length s → read_alone (entry_at s at) ≡ Typed b → Again s k b
    typed sender es p at n fits r =
        let bytes = part_small s (at + 4) (body_length s at) small in
        let w = typed_writable (entry_at s at).kind (entry_at s at).specific (entry_at s at).body b (small (at + 1)) bytes r in
        record {
          place = at;
          start = rw (p, n);
          same = λ out n a. last_bytes b out n a ∙ written_again (entry_at s at).kind (entry_at s at).specific (entry_at s at).body b (small (at + 1)) bytes r ∙ sym (block_cleared s at small fits);
          fits = w.1;
          let_through = let_by b w.0;
        }

    alone : (es : List Entry) (e : Entry) → read_in es e ≡ Typed b → (read_in es e ≡ read_alone e) ⊎ (read_in es e ≡ Dropped Unmeasured) → read_alone e ≡ Typed b
    alone es e r (inl same) = sym same ∙ r
    alone es e r (inr dropped) = let z : ◌≡◌ {A = ℕ} 0 1 = cc in absurd (omega arith)

    within : (sender : ℕ) (es : List Entry) → packet_of s ≡ good sender es → Dec (k < length es) → found es (numbered es k) ≡ answered type (Typed b) → Again s k b
    within sender es p (yes l) f =
        let st = stands s es first_block (length s) k (packet_fill s sender es p) l in
        let e : Entry = entry_at s (place_of es k) in
        let f' : answered e.kind (read_in es e) ≡ answered type (Typed b) = rw st.entry at f in
        let r = (answered_parts e.kind type (read_in es e) (Typed b) f').1 in
        typed sender es p (place_of es k) st.entry st.ends (alone es e r (own_but_unmeasured es e))
    within sender es p (no l) f =
        let none-there = number_none es k (omega arith) in
        let f' : Err no_such_block ≡ answered type (Typed b) = rw none-there at f in
        let z : ◌≡◌ {A = ℕ} 0 1 = cc in
        absurd (omega arith)

    go : (packet : Packet) → packet_of s ≡ packet → block_of (packet_of s) k ≡ answered type (Typed b) → Again s k b
    go (good sender es) p f = within sender es p (dec_lt k (length es)) (rw p at f)
    go (bad r) p f =
        let f' : Err r ≡ answered type (Typed b) = rw p at f in
        let z : ◌≡◌ {A = ℕ} 0 1 = cc in
        absurd (omega arith)
