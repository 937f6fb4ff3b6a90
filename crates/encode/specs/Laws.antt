-- What callers may lean on: a block written is read as itself, and a block read can be written, as it stood but for
-- reserved bits. Statements about the definitions that the calls promise; proved in proofs/.
use Rattle.std.specs.Prelude.{ℕ, ◌<◌, ◌≡◌, true, List, get_or}
use Rattle.block.specs.Reading.{read_block, read_bytes}
use Rattle.block.specs.Reserved.{cleared_byte, cleared_body, block_bytes}
use Rattle.block.specs.declared.Block.{Block}
use Rattle.block.specs.declared.Block.TheVariants.{Measured, Loss, Discard, Effective, Streams}
use Rattle.block.specs.declared.BlockRead.TheVariants.{Typed}
use Rattle.encode.specs.Words.{type_of, bytes_of, writable}

-- numbers of 16 and of 32 bits
abbrev pub Half : ℕ → Type 0
Half n = n < 65536

abbrev pub Word : ℕ → Type 0
Word n = n < 4294967296

-- every field fits its width, as in every block that code can hold; `writable` bounds the interval flag
abbrev pub Fits : Block → Type 0
Fits (Measured m) =
    Word m.source × Half m.first × Word m.extended_first × Word m.extended_last × Word m.interval × Word m.seconds × Word m.fraction
Fits (Loss l) =
    Word l.source × Half l.burst_rate × Half l.gap_rate × Half l.burst_mean × Half l.burst_variance
Fits (Discard d) = Word d.source × Half d.burst_rate × Half d.gap_rate
Fits (Effective e) = Word e.source × Half e.index
Fits (Streams t) =
    Word t.source × Half t.begin × Half t.end × Word t.streams × Word t.sync_losses × Word t.sync_byte_errors × Word t.continuity_errors × Word t.transport_errors × Word t.pcr_errors × Word t.pcr_repetition_errors × Word t.pcr_discontinuity_errors × Word t.pts_errors

-- Each block that may be written is, read by itself, the same block again.
abbrev pub ReadBackLaw : Type 0
ReadBackLaw = (b : Block) → Fits b → writable b ≡ true → read_bytes (bytes_of b) ≡ Typed b

-- every element is a byte
abbrev pub Bytes : List ℕ → Type 0
Bytes s = (i : ℕ) → get_or s i 0 < 256

-- A typed block read and written again has the same bytes but for reserved bits, which are zero.
abbrev pub WrittenAgain : Type 0
WrittenAgain =
    (type specific : ℕ) (body : List ℕ) (b : Block) → specific < 256 → Bytes body → read_block type specific body ≡ Typed b →
    bytes_of b ≡ block_bytes type (cleared_byte type specific) (cleared_body type body)

-- A block that was read as typed can be written: it is let through, its fields fit, and it has the type that was read.
abbrev pub TypedWritable : Type 0
TypedWritable =
    (type specific : ℕ) (body : List ℕ) (b : Block) → specific < 256 → Bytes body → read_block type specific body ≡ Typed b →
    (writable b ≡ true) × Fits b × (type_of b ≡ type)
