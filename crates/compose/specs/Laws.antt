-- What callers may lean on, as statements about the bytes that the calls promise: document 01, "Writing". Proved in
-- proofs/.
use Rattle.std.specs.Prelude.{ℕ, ◌+◌, ◌<◌, ◌≡◌, true, ◌⊎◌, List, [], ◌∷◌, ◌++◌, length, take, drop, Ok, Err, Some}
use Rattle.refusal.specs.Table.{block_value}
use Rattle.refusal.specs.Answer.{after}
use Rattle.block.specs.Reading.{read_bytes, needs_of}
use Rattle.block.specs.Reserved.{cleared_bytes}
use Rattle.block.specs.declared.Measurement.{Measurement}
use Rattle.block.specs.declared.Block.{Block}
use Rattle.block.specs.declared.Block.TheVariants.{Measured}
use Rattle.block.specs.declared.BlockRead.TheVariants.{Typed, Dropped}
use Rattle.encode.specs.Words.{type_of, specific_of, body_words, block_words, words_of, in_bytes}
use Rattle.encode.specs.Laws.{Word, Fits, Bytes}
use Rattle.frame.specs.Frames.{Entry, block_at}
use Rattle.frame.specs.Packet.{Packet, good, size_in, packet_of, front_packet}
use Rattle.packet.specs.Blocks.{measures, read_among}
use Rattle.packet.specs.Laws.{MeasuredAt}
use Rattle.packet.specs.Answers.{block_of, body_of, body_start, part_of, answered}
use Rattle.compose.specs.Writing.{new_bytes, new_answer, append_answer, grown, own_of, add_answer}
use Rattle.refusal.specs.Answer.{Judged}
use Rattle.block.specs.declared.Reason.TheVariants.{Unmeasured}

-- the buffer after each call, as the calls promise it
abbrev pub after_new : List ℕ → ℕ → List ℕ
after_new s sender = after (new_answer s) (new_bytes sender) s

abbrev pub after_append : List ℕ → Judged → List ℕ → List ℕ
after_append s own words = after (append_answer s own (length words)) (grown s words) s

abbrev pub after_add : List ℕ → Block → List ℕ
after_add s b = after_append s (own_of b) (words_of b)

-- A new packet reads as its sender and no blocks, and is a packet to add to.
abbrev pub NewRead : Type 0
NewRead =
    (s : List ℕ) (sender n : ℕ) → Word sender → new_answer s ≡ Ok n →
    (packet_of (take n (after_new s sender)) ≡ good sender []) × (front_packet (after_new s sender) ≡ good sender [])

-- a good append: a packet at the front, a block of any kind as its type, type-specific byte and the words after its
-- first, with its own refusals, and the packet's new size
pub record Append (s : List ℕ) (own : Judged) (type specific : ℕ) (body : List ℕ) (sender : ℕ) (es : List Entry) (n : ℕ) : Type 0 where
  pub type_fits : type < 256
  pub specific_fits : specific < 256
  pub packet : front_packet s ≡ good sender es
  pub answer : append_answer s own (length (block_words type specific body)) ≡ Ok n

-- the block as the packet's list has it
abbrev pub entry_of : ℕ → ℕ → List ℕ → ℕ → Entry
entry_of type specific body at = record { kind = type; specific = specific; place = at; body = in_bytes body }

-- "Adding .. leaves the packet good": the same sender and blocks, and the new one behind them, whose bytes end the packet.
pub record Appended (s out : List ℕ) (type specific : ℕ) (body : List ℕ) (sender : ℕ) (es : List Entry) (n : ℕ) : Type 0 where
  pub packet : packet_of (take n out) ≡ good sender (es ++ entry_of type specific body (size_in s) ∷ [])
  pub front : front_packet out ≡ good sender (es ++ entry_of type specific body (size_in s) ∷ [])
  pub bytes : drop (size_in s) (take n out) ≡ in_bytes (block_words type specific body)

abbrev pub AppendedGood : Type 0
AppendedGood =
    (s : List ℕ) (own : Judged) (type specific : ℕ) (body : List ℕ) (sender : ℕ) (es : List Entry) (n : ℕ) → Append s own type specific body sender es n →
    Appended s (after_append s own (block_words type specific body)) type specific body sender es n

-- Every earlier block keeps its place and its body, and reads as before, but for a D4 that its block 14 has now lifted.
pub record Lifted (p p' : Packet) (e : Entry) (k : ℕ) : Type 0 where
  pub type : ℕ
  pub block : Block
  pub source : ℕ
  pub needs : needs_of block ≡ Some source
  pub measured_now : measures source e ≡ true
  pub was : block_of p k ≡ answered type (Dropped Unmeasured)
  pub is : block_of p' k ≡ answered type (Typed block)

abbrev pub Kept : Packet → Packet → Entry → ℕ → Type 0
Kept p p' e k = (part_of p' k ≡ part_of p k) × (body_of p' k ≡ body_of p k) × ((block_of p' k ≡ block_of p k) ⊎ Lifted p p' e k)

abbrev pub EarlierKept : Type 0
EarlierKept =
    (s : List ℕ) (own : Judged) (type specific : ℕ) (body : List ℕ) (sender : ℕ) (es : List Entry) (n k : ℕ) → Append s own type specific body sender es n →
    k < length es →
    Kept (front_packet s) (packet_of (take n (after_append s own (block_words type specific body)))) (entry_of type specific body (size_in s)) k

-- a typed block that was added to the packet at the front of s
pub record Add (s : List ℕ) (b : Block) (sender : ℕ) (es : List Entry) (n : ℕ) : Type 0 where
  pub fits : Fits b
  pub packet : front_packet s ≡ good sender es
  pub answer : add_answer s b ≡ Ok n

abbrev pub block_entry : Block → ℕ → Entry
block_entry b at = entry_of (type_of b) (specific_of b) (body_words b) at

-- "Read by itself the new block is the one given; read by index too, save that a 17 or 18 is D4 until its block 14
-- is there": `read_among` is D4 and nothing else.
abbrev pub AddedRead : Type 0
AddedRead =
    (s : List ℕ) (b : Block) (sender : ℕ) (es : List Entry) (n : ℕ) → Add s b sender es n →
    (read_bytes (drop (size_in s) (take n (after_add s b))) ≡ Typed b)
    × (block_of (packet_of (take n (after_add s b))) (length es) ≡ answered (type_of b) (read_among (es ++ block_entry b (size_in s) ∷ []) (Typed b)))

-- A 17 or 18 is D4 once it is added, where no block that was there is a typed 14 for its source.
abbrev pub AddedUnmeasured : Type 0
AddedUnmeasured =
    (s : List ℕ) (b : Block) (source sender : ℕ) (es : List Entry) (n : ℕ) → Add s b sender es n → needs_of b ≡ Some source →
    (MeasuredAt (front_packet s) source → ⊥) →
    block_of (packet_of (take n (after_add s b))) (length es) ≡ answered (type_of b) (Dropped Unmeasured)

-- It is the one given once a 14 for its source is added too.
abbrev pub MeasuredLater : Type 0
MeasuredLater =
    (s : List ℕ) (b : Block) (source sender : ℕ) (es : List Entry) (n : ℕ) → Add s b sender es n → needs_of b ≡ Some source →
    (m : Measurement) (n' : ℕ) → Fits (Measured m) → m.source ≡ source → add_answer (after_add s b) (Measured m) ≡ Ok n' →
    block_of (packet_of (take n' (after_add (after_add s b) (Measured m)))) (length es) ≡ answered (type_of b) (Typed b)

-- "A typed block read and written again has the same bytes but for reserved bits, now zero": of block k of any packet,
-- whose bytes there begin four before its body, and of any buffer that it is added to; it fits its fields, and refusal 16
-- never meets it.
pub record Again (s : List ℕ) (k : ℕ) (b : Block) : Type 0 where
  pub place : ℕ
  pub start : body_start (packet_of s) k ≡ place + 4
  pub same : (out : List ℕ) (n : ℕ) → add_answer out b ≡ Ok n → drop (size_in out) (take n (after_add out b)) ≡ cleared_bytes (block_at s place)
  pub fits : Fits b
  pub let_through : (out : List ℕ) → add_answer out b ≡ Err block_value → ⊥

abbrev pub WrittenAgainInPacket : Type 0
WrittenAgainInPacket = (s : List ℕ) (k type : ℕ) (b : Block) → Bytes s → block_of (packet_of s) k ≡ answered type (Typed b) → Again s k b
