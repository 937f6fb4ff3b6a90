-- What callers may lean on, as statements about the definitions that the call promises. Proved in proofs/.
use Rattle.std.specs.Prelude.{ℕ, ◌+◌, ◌*◌, ◌<◌, ◌≤◌, ◌≡◌, ◌↔◌, ◌⊎◌, List, [], map, length, get_or, Some, Ok}
use Rattle.block.specs.Fields.{fields_of}
use Rattle.block.specs.declared.Block.{Block as Block-as-Block}
use Rattle.block.specs.declared.BlockRead.TheVariants.{Typed}
use Rattle.frame.specs.Frames.{Entry}
use Rattle.frame.specs.Packet.{Packet, good, numbered, packet_of}
use Rattle.packet.specs.Blocks.{read_in}
use Rattle.packet.specs.Reserved.{cleared_all}
use Rattle.difference.specs.declared.Difference.{Difference}
use Rattle.difference.specs.declared.Kind.{Kind}
use Rattle.difference.specs.declared.Kind.TheVariants.{Sender, Field, Block, OnlyFirst, OnlySecond}
use Rattle.difference.specs.Differences.{kind_number, senders, fields, whole_block, only_first, only_second}
use Rattle.compare.specs.Differences.{Content, typed, bytes, content_of, contents}
use Rattle.compare.specs.Answer.{differences_of, compare_answer, list_after}

-- Nothing differs: the same sender, as many blocks, and each pair alike: two typed blocks of one type with the same fields,
-- or two blocks of which neither is typed, with the same bytes.
pub record SameFields (xs ys : List Entry) (x y : Entry) : Type 0 where
  pub first : Block-as-Block
  pub second : Block-as-Block
  pub reads_first : read_in xs x ≡ Typed first
  pub reads_second : read_in ys y ≡ Typed second
  pub type : x.kind ≡ y.kind
  pub fields_same : fields_of first ≡ fields_of second

pub record SameBytes (xs ys : List Entry) (x y : Entry) : Type 0 where
  pub first_untyped : (b : Block-as-Block) → read_in xs x ≡ Typed b → ⊥
  pub second_untyped : (b : Block-as-Block) → read_in ys y ≡ Typed b → ⊥
  pub type : x.kind ≡ y.kind
  pub specific : x.specific ≡ y.specific
  pub body : x.body ≡ y.body

abbrev pub Alike : List Entry → List Entry → Entry → Entry → Type 0
Alike xs ys x y = SameFields xs ys x y ⊎ SameBytes xs ys x y

pub record NothingDiffers (a : ℕ) (xs : List Entry) (b : ℕ) (ys : List Entry) : Type 0 where
  pub sender : a ≡ b
  pub count : length xs ≡ length ys
  pub blocks : (k : ℕ) (x y : Entry) → numbered xs k ≡ Some x → numbered ys k ≡ Some y → Alike xs ys x y

-- "The list is empty exactly when nothing of these differs."
abbrev pub EmptyExactly : Type 0
EmptyExactly = (a : ℕ) (xs : List Entry) (b : ℕ) (ys : List Entry) → (differences_of (good a xs) (good b ys) ≡ []) ↔ NothingDiffers a xs b ys

abbrev pub SelfEmpty : Type 0
SelfEmpty = (p : Packet) → differences_of p p ≡ []

-- Blocks that differ in reserved bits of typed blocks alone: equal once cleared, and a block that is not typed keeps its bytes.
pub record TypedReserved (xs ys : List Entry) : Type 0 where
  pub cleared : cleared_all xs ≡ cleared_all ys
  pub others : (k : ℕ) (x y : Entry) → numbered xs k ≡ Some x → numbered ys k ≡ Some y → ((b : Block-as-Block) → read_in xs x ≡ Typed b → ⊥) →
      (x.specific ≡ y.specific) × (x.body ≡ y.body)

abbrev pub ReservedEmpty : Type 0
ReservedEmpty = (a : ℕ) (xs ys : List Entry) → TypedReserved xs ys → differences_of (good a xs) (good a ys) ≡ []

-- Compared the other way round: the same entries, with kinds 3 and 4 and the readings exchanged.
abbrev pub turned_kind : Kind → Kind
turned_kind Sender = Sender
turned_kind Field = Field
turned_kind Block = Block
turned_kind OnlyFirst = OnlySecond
turned_kind OnlySecond = OnlyFirst

abbrev pub turned : Difference → Difference
turned d = record { kind = turned_kind d.kind; block = d.block; field = d.field; first = d.second; second = d.first }

abbrev pub Turned : Type 0
Turned = (p q : Packet) → differences_of q p ≡ map turned (differences_of p q)

-- what is compared of block k
abbrev pub content_at : List Entry → ℕ → Content
content_at es k = get_or (contents es es) k (bytes [])

-- what `read_in` says of block number k of its packet
abbrev pub ContentsNumbered : Type 0
ContentsNumbered = (es : List Entry) (k : ℕ) (e : Entry) → numbered es k ≡ Some e → content_at es k ≡ content_of e (read_in es e)

-- A difference: of the senders; of field f of block k, where both packets have it typed and of one type; of block k, where both
-- have it and not so, and not the same; of a block that one packet alone has.
pub data IsDifference (a : ℕ) (xs : List Entry) (b : ℕ) (ys : List Entry) (d : Difference) : Type 0 where
  sender_differs : (a ≡ b → ⊥) → d ≡ senders a b → IsDifference a xs b ys d
  field_differs : (k f t : ℕ) (us vs : List ℕ) → k < length xs → k < length ys → content_at xs k ≡ typed t us → content_at ys k ≡ typed t vs →
      f < length us → (get_or us f 0 ≡ get_or vs f 0 → ⊥) → d ≡ fields k f (get_or us f 0) (get_or vs f 0) → IsDifference a xs b ys d
  block_differs : (k : ℕ) → k < length xs → k < length ys → (content_at xs k ≡ content_at ys k → ⊥) →
      ((t : ℕ) (us vs : List ℕ) → content_at xs k ≡ typed t us → content_at ys k ≡ typed t vs → ⊥) → d ≡ whole_block k → IsDifference a xs b ys d
  first_only : (k : ℕ) → k < length xs → length ys ≤ k → d ≡ only_first k → IsDifference a xs b ys d
  second_only : (k : ℕ) → length xs ≤ k → k < length ys → d ≡ only_second k → IsDifference a xs b ys d

-- an entry of the lent list, and what it is of a difference
pub record Row : Type 0 where
  pub kind : ℕ
  pub block : ℕ
  pub field : ℕ
  pub first : ℕ
  pub second : ℕ

abbrev pub row_of : Difference → Row
row_of d = record { kind = kind_number d.kind; block = d.block; field = d.field; first = d.first; second = d.second }

abbrev pub entry_in : List ℕ → ℕ → Row
entry_in out i =
    record {
      kind = get_or out (5 * i) 0;
      block = get_or out (5 * i + 1) 0;
      field = get_or out (5 * i + 2) 0;
      first = get_or out (5 * i + 3) 0;
      second = get_or out (5 * i + 4) 0;
    }

-- "The sender comes first, then blocks, then fields in layout order from 0"
pub data Before (d e : Row) : Type 0 where
  sender_first : d.kind ≡ 0 → 0 < e.kind → Before d e
  block_first : 0 < d.kind → 0 < e.kind → d.block < e.block → Before d e
  field_first : 0 < d.kind → 0 < e.kind → d.block ≡ e.block → d.field < e.field → Before d e

-- where a difference stands in the list
pub record Stands (out : List ℕ) (n : ℕ) (d : Difference) : Type 0 where
  pub index : ℕ
  pub within : index < n
  pub is : entry_in out index ≡ row_of d

-- an entry that is a difference
pub record Told (a : ℕ) (xs : List Entry) (b : ℕ) (ys : List Entry) (row : Row) : Type 0 where
  pub difference : Difference
  pub row_is : row ≡ row_of difference
  pub differs : IsDifference a xs b ys difference

-- Each entry is a difference, each difference has its entry, and they stand in order, so that each has one entry alone.
pub record Listed (a : ℕ) (xs : List Entry) (b : ℕ) (ys : List Entry) (out : List ℕ) (n : ℕ) : Type 0 where
  pub each_true : (i : ℕ) → i < n → Told a xs b ys (entry_in out i)
  pub each_listed : (d : Difference) → IsDifference a xs b ys d → Stands out n d
  pub ordered : (i j : ℕ) → i < j → j < n → Before (entry_in out i) (entry_in out j)

abbrev pub ListedExactly : Type 0
ListedExactly =
    (a : ℕ) (xs : List Entry) (b : ℕ) (ys : List Entry) (out : List ℕ) (n : ℕ) → compare_answer (good a xs) (good b ys) out ≡ Ok n →
    Listed a xs b ys (list_after (good a xs) (good b ys) out) n

-- Three entries for every eight bytes of the longer packet are always room enough.
abbrev pub RoomEnough : Type 0
RoomEnough = (s t : List ℕ) (n : ℕ) → length s ≤ n → length t ≤ n → 8 * length (differences_of (packet_of s) (packet_of t)) ≤ 3 * n
