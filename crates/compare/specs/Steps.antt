-- What the private functions take: blocks by their own bytes, and sorted tables of their packets' measured sources.
use Rattle.std.specs.Prelude.{ℕ, ◌+◌, ◌*◌, ◌≤◌, ◌≡◌, Bool, true, cond, ◌&&◌, List, [], ◌∷◌, eqb, length, get_or, drop, Result}
use Rattle.wire.specs.BigEndian.{u16_at}
use Rattle.sorting.specs.Order.{Sorted}
use Rattle.block.specs.Types.{unmeasured}
use Rattle.block.specs.Layouts.{flag_in}
use Rattle.block.specs.Reading.{summary_good, read_bytes}
use Rattle.frame.specs.Frames.{Entry}
use Rattle.frame.specs.Packet.{packet_of, good}
use Rattle.packet.specs.Blocks.{measured, read_among}
use Rattle.verdict.specs.Verdict.{verdict_of}
use Rattle.verdict.specs.Sources.{member, typed_by}
use Rattle.difference.specs.declared.Difference.{Difference}
use Rattle.difference.specs.declared.Kind.{Kind}
use Rattle.difference.specs.Differences.{only_first, only_second}
use Rattle.difference.specs.Places.{values_in}
use Rattle.compare.specs.Answer.{compare_answer, list_after}
use Rattle.compare.specs.Differences.{Content, typed, bytes, between}
use Rattle.refusal.specs.declared.Refusal.{Refusal}

-- a block: its first word has its length
pub record Whole (x : List ℕ) : Type 0 where
  pub some : 4 ≤ length x
  pub size : length x ≡ 4 + 4 * u16_at x 2

-- where there is one
pub record Blocks (x y : List ℕ) : Type 0 where
  pub first : (length x ≡ 0 → ⊥) → Whole x
  pub second : (length y ≡ 0 → ⊥) → Whole y

-- two blocks of one type that are typed in any packet
pub record SizeTyped (x y : List ℕ) : Type 0 where
  pub type : get_or x 0 0 ≡ get_or y 0 0
  pub first : (table : List ℕ) → typed_by table (read_bytes x) ≡ true
  pub second : (table : List ℕ) → typed_by table (read_bytes y) ≡ true

-- a 17 or 18 of this size, with a flag and rates that reading lets through
pub record GoodSummary (z : List ℕ) (size : ℕ) : Type 0 where
  pub long : length z ≡ size
  pub good : summary_good (flag_in (get_or z 1 0)) (u16_at z 8) (u16_at z 10) ≡ true

-- two blocks of one type that wait for a measurement alone
pub record Waiting (x y : List ℕ) : Type 0 where
  pub type : get_or x 0 0 ≡ get_or y 0 0
  pub first : verdict_of (read_among [] (read_bytes x)) ≡ unmeasured
  pub second : verdict_of (read_among [] (read_bytes y)) ≡ unmeasured

-- two blocks of one type, each typed in a packet with the sources of its table
abbrev pub both_typed : List ℕ → List ℕ → List ℕ → List ℕ → Bool
both_typed table other x y = eqb (get_or x 0 0) (get_or y 0 0) && (typed_by table (read_bytes x) && typed_by other (read_bytes y))

-- a difference of this kind that has no readings
abbrev pub whole : Kind → ℕ → Difference
whole kind k = record { kind = kind; block = k; field = 0; first = 0; second = 0 }

-- what is compared of a block with these bytes, in a packet with the sources of this table
abbrev pub content_by : Bool → List ℕ → Content
content_by t block = cond t (typed (get_or block 0 0) (values_in block)) (bytes (get_or block 0 0 ∷ get_or block 1 0 ∷ drop 4 block))

abbrev pub content_in : List ℕ → List ℕ → Content
content_in table block = content_by (typed_by table (read_bytes block)) block

-- block k of two packets, by its bytes in each; no bytes where a packet has no such block
abbrev pub block_differences : ℕ → List ℕ → List ℕ → List ℕ → List ℕ → List Difference
block_differences k table other x y =
    cond (eqb (length y) 0) (only_first k ∷ [])
    (cond (eqb (length x) 0) (only_second k ∷ [])
    (between k (content_in table x) (content_in other y)))

-- two good packets, and the tables of their measured sources
pub record Ready (s t table other : List ℕ) : Type 0 where
  pub sender : ℕ
  pub blocks : List Entry
  pub packet : packet_of s ≡ good sender blocks
  pub short : length s ≤ 262144
  pub sorted : Sorted table
  pub measures : (x : ℕ) → member x table ≡ measured x blocks
  pub other_sender : ℕ
  pub other_blocks : List Entry
  pub other_packet : packet_of t ≡ good other_sender other_blocks
  pub other_short : length t ≤ 262144
  pub other_sorted : Sorted other
  pub other_measures : (x : ℕ) → member x other ≡ measured x other_blocks

-- a table with room for the sources of a packet, where it is one
abbrev pub Holds : List ℕ → List ℕ → Type 0
Holds s table = (sender : ℕ) (blocks : List Entry) → packet_of s ≡ good sender blocks → (length s ≤ 32 * length table) × (length s ≤ 262144)

-- the answer and the list that are promised
abbrev pub Answers : List ℕ → List ℕ → List ℕ → List ℕ → Result ℕ Refusal → Type 0
Answers s t out out' answer = (answer ≡ compare_answer (packet_of s) (packet_of t) out) × (out' ≡ list_after (packet_of s) (packet_of t) out)
