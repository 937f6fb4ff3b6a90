-- The cases of a new packet, of appending words and of adding a block, in the order of the refusals; and the buffer
-- afterwards. Assumes nothing.
use Prim.Native.Nat.{ℕ, ◌+◌, ◌-◌, ◌*◌, ◌/◌, ◌<◌, ◌≤◌}
use mathlib.Core.Path.{◌≡◌, refl, sym, ap, ap₂, ◌∙◌}
use mathlib.Core.Bool.{true}
use mathlib.Core.List.{List, ◌++◌, append_assoc}
use native.Mathlib.Omega.{arith}
use borrow.Author.Tests.{le-leb, lt-leb, leb-true}
use lib.Dec.{leb}
use lib.ListN.{length, take, drop, length-append}
use lib.Seq.{length-take-le, take-append-le, drop-append-le}
use Rattle.refusal.specs.Table.{buffer_short, packet_full}
use Rattle.refusal.specs.Answer.{unless, after}
use Rattle.refusal.specs.declared.Refusal.{Refusal}
use Rattle.refusal.proofs.Tests.{passed}
use Rattle.wire.specs.BigEndian.{bytes16, bytes32, placed}
use Rattle.wire.proofs.Placed.{placed_in, length_placed, placed_more}
use Rattle.block.specs.declared.Block.{Block}
use Rattle.encode.specs.Words.{words_of, in_bytes, bytes_of}
use Rattle.encode.proofs.Storing.{length_in_bytes}
use Rattle.frame.specs.declared.Extent.TheVariants.{Front}
use Rattle.frame.specs.Frames.{Entry, first_block}
use Rattle.frame.specs.Packet.{Packet, good, bad, size_in, front_packet}
use Rattle.frame.proofs.FirstBytes.{head_facts, head_bounds}
use Rattle.frame.proofs.Filling.{packet_exactly}
use Rattle.compose.specs.Writing.{new_bytes, new_answer, length_after, length_max, size_after, appended, append_answer, grown, add_answer}
use Rattle.std.specs.Prelude.{Ok, Err}
use Rattle.refusal.specs.Answer.{Judged, Written}

-- a new packet
abbrev pub Made : List ℕ → ℕ → Written → List ℕ → Type 0
Made s sender r out = (r ≡ new_answer s) × (out ≡ after (new_answer s) (new_bytes sender) s)

pub made_refused : (s : List ℕ) (sender : ℕ) → length s < first_block → Made s sender (Err buffer_short) s
made_refused s sender h = rw (lt-leb first_block (length s) h) (refl, refl)

pub made : (s : List ℕ) (sender : ℕ) (out : List ℕ) → first_block ≤ length s →
    out ≡ placed (placed s 0 (bytes32 2161049601)) 4 (bytes32 sender) → Made s sender (Ok first_block) out
made s sender out h e =
    rw (le-leb first_block (length s) h)
    (refl, e ∙ placed_more s 0 (bytes32 2161049601) (bytes32 sender) h ∙ placed_in s 0 (bytes32 2161049601 ++ bytes32 sender) h)

-- a packet at the front is at least eight bytes long, and inside the buffer
pub front_bounds : (s : List ℕ) (sender : ℕ) (es : List Entry) → front_packet s ≡ good sender es → (first_block ≤ size_in s) × (size_in s ≤ length s)
front_bounds s sender es p =
    let m = (packet_exactly Front s sender es).0 p in
    rw (head_facts Front s sender m.size m.header).field (head_bounds Front s sender m.size m.header)

pub front_room : (s : List ℕ) (sender : ℕ) (es : List Entry) → front_packet s ≡ good sender es → first_block ≤ length s
front_room s sender es p = let b = front_bounds s sender es p in omega arith

-- the cases of appending n words
module _ (s : List ℕ) (own : Judged) (n : ℕ) where
  pub front_bad : (r : Refusal) → front_packet s ≡ bad r → Err r ≡ append_answer s own n
  unfolding append_answer
  front_bad r p = rw p

  module _ (sender : ℕ) (es : List Entry) (p : front_packet s ≡ good sender es) where
    pub own_bad : (r : Refusal) → own ≡ Err r → Err r ≡ append_answer s own n
    unfolding append_answer
    own_bad r o = rw (p, o)

    module _ (o : own ≡ (Ok (tt {0}))) where
      pub full : length_max < length_after s n → Err packet_full ≡ append_answer s own n
      unfolding append_answer
      full h = rw (p, o, lt-leb (length_after s n) length_max h)

      module _ (few : length_after s n ≤ length_max) where
        pub no_room : length s < size_after s n → Err buffer_short ≡ append_answer s own n
        unfolding append_answer
        no_room h = rw (p, o, le-leb (length_after s n) length_max few, lt-leb (size_after s n) (length s) h)

        pub has_room : size_after s n ≤ length s → Ok (size_after s n) ≡ append_answer s own n
        unfolding append_answer
        has_room h = rw (p, o, le-leb (length_after s n) length_max few, le-leb (size_after s n) (length s) h)

-- what a good answer has
pub record Fit (s : List ℕ) (own : Judged) (n size : ℕ) : Type 0 where
  pub sender : ℕ
  pub blocks : List Entry
  pub packet : front_packet s ≡ good sender blocks
  pub accepted : own ≡ Ok (tt {0})
  pub few : length_after s n ≤ length_max
  pub room : size_after s n ≤ length s
  pub is : size ≡ size_after s n

pub fit : (s : List ℕ) (own : Judged) (n size : ℕ) → append_answer s own n ≡ Ok size → Fit s own n size
unfolding append_answer
fit s own n size h = go (front_packet s) own refl refl h
  where
    past_no : (t : _) (r : Refusal) (rest : Written) → unless t (Err r) rest ≡ Ok size → (t ≡ true) × (rest ≡ Ok size)
    past_no t r rest e = passed t (Err r) rest (Ok size) (λ x. let z : ◌≡◌ {A = ℕ} 0 1 = cc in omega arith) e

    go : (p : Packet) (j : Judged) → front_packet s ≡ p → own ≡ j → appended p j s n ≡ Ok size → Fit s own n size
    go (bad r) j p o e = let z : ◌≡◌ {A = ℕ} 0 1 = cc in absurd (omega arith)
    go (good sender es) (Err r) p o e = let z : ◌≡◌ {A = ℕ} 0 1 = cc in absurd (omega arith)
    go (good sender es) (Ok _) p o e =
        let one = past_no (leb (length_after s n) length_max) packet_full _ e in
        let two = past_no (leb (size_after s n) (length s)) buffer_short _ one.1 in
        let last = two.1 in
        record {
          sender = sender;
          blocks = es;
          packet = p;
          accepted = o;
          few = leb-true (length_after s n) length_max one.0;
          room = leb-true (size_after s n) (length s) two.0;
          is = cc;
        }

-- bytes behind the first `size`, then two bytes at 2: what the buffer holds
both_placed : (s : List ℕ) (size : ℕ) (bytes : List ℕ) (field : ℕ) → 4 ≤ size → size + length bytes ≤ length s →
    placed (placed s size bytes) 2 (bytes16 field) ≡ take 2 (take size s) ++ bytes16 field ++ drop 4 (take size s) ++ bytes ++ drop (size + length bytes) s
both_placed s size bytes field h room =
    placed_in (placed s size bytes) 2 (bytes16 field) (rw (length_placed s size bytes room) (omega arith))
    ∙ ap (λ (x : List ℕ). take 2 x ++ bytes16 field ++ drop 4 x) (placed_in s size bytes room)
    ∙ ap₂ (λ (x y : List ℕ). x ++ bytes16 field ++ y) head tail
    ∙ sym (append_assoc (take 2 p ++ bytes16 field) (drop 4 p ++ bytes) rest)
    ∙ ap (λ (x : List ℕ). x ++ rest) (sym (append_assoc (take 2 p ++ bytes16 field) (drop 4 p) bytes))
  where
    p : List ℕ
    p = take size s

    rest : List ℕ
    rest = drop (size + length bytes) s

    long_p : length p ≡ size
    long_p = length-take-le size s (omega arith)

    long_both : length (p ++ bytes) ≡ size + length bytes
    long_both = length-append p bytes ∙ ap (λ (n : ℕ). n + length bytes) long_p

    head : take 2 (p ++ bytes ++ rest) ≡ take 2 p
    head = take-append-le 2 (p ++ bytes) rest (omega (arith, long_both)) ∙ take-append-le 2 p bytes (omega (arith, long_p))

    tail : drop 4 (p ++ bytes ++ rest) ≡ drop 4 p ++ bytes ++ rest
    tail =
        drop-append-le 4 (p ++ bytes) rest (omega (arith, long_both))
        ∙ ap (λ (x : List ℕ). x ++ rest) (drop-append-le 4 p bytes (omega (arith, long_p)))

-- the words behind the packet, and its length field anew, are the buffer that is promised
pub placed_words : (s : List ℕ) (own : Judged) (words : List ℕ) (size : ℕ) → Fit s own (length words) size →
    placed (placed s (size_in s) (in_bytes words)) 2 (bytes16 (length_after s (length words))) ≡ grown s words ++ drop size s
placed_words s own words size f =
    let low = (front_bounds s f.sender f.blocks f.packet).0 in
    let bytes = length_in_bytes words in
    let room = f.room in
    let is = f.is in
    let end : size_in s + length (in_bytes words) ≡ size = omega arith in
    both_placed s (size_in s) (in_bytes words) (length_after s (length words)) (omega arith) (omega arith)
    ∙ ap (λ (k : ℕ). grown s words ++ drop k s) end

-- written by hand: the words where the packet ends, then its length field
pub written_words : (s : List ℕ) (own : Judged) (words : List ℕ) (size : ℕ) (out out' : List ℕ) → Fit s own (length words) size →
    out ≡ placed s (size - 4 * length words) (in_bytes words) → out' ≡ placed out 2 (bytes16 (size / 4 - 1)) → out' ≡ grown s words ++ drop size s
written_words s own words size out out' f p q =
    let is = f.is in
    let start : size - 4 * length words ≡ size_in s = omega arith in
    let field : size / 4 - 1 ≡ length_after s (length words) = omega arith in
    q ∙ rw (p, start, field) (placed_words s own words size f)

-- adding a block: the answer and the buffer
abbrev pub Wrote : List ℕ → Block → Written → List ℕ → Type 0
Wrote s b r out = (r ≡ add_answer s b) × (out ≡ after (add_answer s b) (grown s (words_of b)) s)

pub not_added : (s : List ℕ) (b : Block) (r : Refusal) → add_answer s b ≡ Err r → Wrote s b (Err r) s
not_added s b r e = rw e (refl, refl)

pub added : (s : List ℕ) (b : Block) (own : Judged) (count size : ℕ) (out out' : List ℕ) → count ≡ length (words_of b) → (f : Fit s own count size) → add_answer s b ≡ Ok size →
    out ≡ placed s (size - 4 * count) (bytes_of b) → out' ≡ placed out 2 (bytes16 (size / 4 - 1)) → Wrote s b (Ok size) out'
unfolding bytes_of
added s b own count size out out' c f e p q =
    rw e (refl, written_words s own (words_of b) size out out' (rw (← c) f) (p ∙ ap (λ (n : ℕ). placed s (size - 4 * n) (in_bytes (words_of b))) c) q)
