-- A typed block as its 32-bit words, the rows of the diagrams in crate block, and as bytes: document 01, "The
-- packet", the table, and "Reserved bits are .. zero when written". A block's first word is its type,
-- type-specific byte and "block length in 32-bit words less one".
use Rattle.std.specs.Prelude.{ℕ, ◌+◌, ◌*◌, ◌%◌, Bool, true, List, [], ◌∷◌, ◌++◌, length}
use Rattle.wire.specs.BigEndian.{bytes32}
use Rattle.block.specs.Types.{measurement_type, loss_type, discard_type, effective_type, streams_type}
use Rattle.block.specs.Reading.{summary_good}
use Rattle.block.specs.declared.Block.{Block}
use Rattle.block.specs.declared.Block.TheVariants.{Measured, Loss, Discard, Effective, Streams}
use Rattle.encode.specs.declared.BlockWords.{BlockWords}
use Rattle.encode.specs.declared.BlockWords.TheVariants.{Three, Four, Eight, Twelve}

-- two 16-bit numbers side by side
abbrev pub halves : ℕ → ℕ → ℕ
halves high low = high * 65536 + low

abbrev pub first_word : ℕ → ℕ → ℕ → ℕ
first_word type specific block_length = halves (type * 256 + specific) block_length

-- the interval flag in the top two bits of the type-specific byte
abbrev pub flag_byte : ℕ → ℕ
flag_byte flag = flag % 4 * 64

abbrev pub type_of : Block → ℕ
type_of (Measured m) = measurement_type
type_of (Loss l) = loss_type
type_of (Discard d) = discard_type
type_of (Effective e) = effective_type
type_of (Streams t) = streams_type

abbrev pub specific_of : Block → ℕ
specific_of (Measured m) = 0
specific_of (Loss l) = flag_byte l.flag
specific_of (Discard d) = flag_byte d.flag
specific_of (Effective e) = 0
specific_of (Streams t) = 0

-- the words after the first
abbrev pub body_words : Block → List ℕ
body_words (Measured m) =
    m.source ∷ halves 0 m.first ∷ m.extended_first ∷ m.extended_last ∷ m.interval ∷ m.seconds ∷ m.fraction ∷ []
body_words (Loss l) =
    l.source ∷ halves l.burst_rate l.gap_rate ∷ halves l.burst_mean l.burst_variance ∷ []
body_words (Discard d) = d.source ∷ halves d.burst_rate d.gap_rate ∷ []
body_words (Effective e) = e.source ∷ halves e.index 0 ∷ []
body_words (Streams t) =
    t.source ∷ halves t.begin t.end ∷ t.streams ∷ t.sync_losses ∷ t.sync_byte_errors ∷ t.continuity_errors ∷ t.transport_errors ∷ t.pcr_errors ∷ t.pcr_repetition_errors ∷ t.pcr_discontinuity_errors ∷ t.pts_errors ∷ []

-- the block length is the number of the words after the first
abbrev pub block_words : ℕ → ℕ → List ℕ → List ℕ
block_words type specific body = first_word type specific (length body) ∷ body

abbrev pub words_of : Block → List ℕ
words_of b = block_words (type_of b) (specific_of b) (body_words b)

-- "All numbers are big-endian"
abbrev pub in_bytes : List ℕ → List ℕ
in_bytes [] = []
in_bytes (w ∷ ws) = bytes32 w ++ in_bytes ws

unfoldable pub bytes_of : Block → List ℕ
bytes_of b = in_bytes (words_of b)

-- the words that are held by their number
abbrev pub held : BlockWords → List ℕ
held (Three ws) = ws
held (Four ws) = ws
held (Eight ws) = ws
held (Twelve ws) = ws

-- what refusal 16 lets through: every block but a 17 or 18 that "has a flag other than 1, 2 or 3, or a rate that
-- reading would drop"
abbrev pub writable : Block → Bool
writable (Measured m) = true
writable (Loss l) = summary_good l.flag l.burst_rate l.gap_rate
writable (Discard d) = summary_good d.flag d.burst_rate d.gap_rate
writable (Effective e) = true
writable (Streams t) = true
