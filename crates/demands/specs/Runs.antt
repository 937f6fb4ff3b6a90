-- Per-packet loss, document 02, ticket 5, said of the bytes of a block of type 1 and of what the calls answer.
use Rattle.std.specs.Prelude.{ℕ, ◌≡◌, List, ◌∷◌, get_or}
use Rattle.chunk.specs.Laws.{CoversExactly, UncoveredExactly, VectorBit, VectorLost, RunPackets}
use Rattle.block.specs.Layouts.{covered}
use Rattle.block.specs.Laws.{RleExactly, D1Exactly, D2Exactly, D5Exactly}
use Rattle.block.specs.declared.LossRle.{LossRle}
use Rattle.block.specs.declared.BlockRead.TheVariants.{Rle}
use Rattle.frame.specs.Frames.{Entry}
use Rattle.packet.specs.Blocks.{read_in}
use Rattle.compare.specs.Differences.{bytes, content_of}
use Rattle.runs.specs.Laws.{AddedRead, TraceOfBlock, WrittenChunks, ChunkCount, Fewest}
use Rattle.ffi_block.specs.Answers.{read_out}

-- at the boundary: a verdict of its own, and source, begin, end, packets and lost
pub record Shown (type : ℕ) (r : LossRle) : Type 0 where
  pub verdict : (read_out type (Rle r)).verdict ≡ 254
  pub source : get_or (read_out type (Rle r)).fields 0 0 ≡ r.source
  pub begin : get_or (read_out type (Rle r)).fields 1 0 ≡ r.begin
  pub end : get_or (read_out type (Rle r)).fields 2 0 ≡ r.end
  pub packets : get_or (read_out type (Rle r)).fields 3 0 ≡ covered r.begin r.end
  pub lost : get_or (read_out type (Rle r)).fields 4 0 ≡ r.lost

pub record RunsKept : Type 0 where
  -- "A good type 1 is a fourth kind of answer (source, begin, end, lost)", exactly where its bytes are one
  pub exactly : RleExactly
  -- "a bad one is dropped as D1 (fewer than two words, or not whole words), D2 (thinning not 0) or D5"
  pub d1 : D1Exactly
  pub d2 : D2Exactly
  -- "D5 (an interval over 65,533, a null chunk before the end, chunks cover too little, or a chunk other than null follows the end)"
  pub d5 : D5Exactly
  pub covers : CoversExactly
  pub causes : UncoveredExactly
  -- the kinds of chunk: "A bit-vector chunk's losses are its fifteen bits less its ones;"
  pub vector_bit : VectorBit
  pub vector_lost : VectorLost
  pub run_packets : RunPackets
  -- "Turn such a block into a trace (received or lost)": as long as the interval, with as many lost as the answer says
  pub trace : TraceOfBlock
  -- "Reading back what was written gives the trace."
  pub again : AddedRead
  -- "Our writer uses vector chunks alone, unused bits zero, and a null chunk where the count is odd.": as few as can be
  pub chunks : WrittenChunks
  pub count : ChunkCount
  pub fewest : Fewest
  -- "Ticket 1 compares type 1 by bytes"
  pub compared : (es : List Entry) (e : Entry) (r : LossRle) → read_in es e ≡ Rle r → content_of e (read_in es e) ≡ bytes (e.kind ∷ e.specific ∷ e.body)
  pub shown : (type : ℕ) (r : LossRle) → Shown type r
