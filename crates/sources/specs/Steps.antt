-- What the private functions take and leave: a good header, a walk that stands at a block, and a walk that ended.
use Rattle.std.specs.Prelude.{ℕ, ◌+◌, ◌*◌, ◌≤◌, ◌≡◌, List, length, take, Result, Ok, Err}
use Rattle.refusal.specs.Table.{block_past_end}
use Rattle.refusal.specs.declared.Refusal.{Refusal}
use Rattle.frame.specs.Frames.{Entry, past, first_block, frames_of}
use Rattle.frame.specs.Packet.{header_of}
use Rattle.frame.specs.Laws.{Fill}
use Rattle.frame.specs.declared.Extent.TheVariants.{Whole}
use Rattle.frame.specs.declared.Header.{Header}
use Rattle.packet.specs.Blocks.{measured}
use Rattle.packet.specs.Steps.{WholeBlocks}
use Rattle.verdict.specs.Sources.{member, Table}
use Rattle.sources.specs.Tables.{block_bytes}

pub record Headed (s : List ℕ) : Type 0 where
  pub header : Header
  pub good : header_of Whole s ≡ Ok header

-- whole blocks lead from the first to `at`, and the first k numbers of the table are their sources
pub record Standing (s table : List ℕ) (at k : ℕ) : Type 0 where
  pub passed : List Entry
  pub filled : Fill s first_block at passed
  pub inside : at ≤ length s
  pub fits : k ≤ length table
  pub room : first_block + block_bytes * k ≤ at
  pub same : length s ≤ block_bytes * length table → (x : ℕ) → member x (take k table) ≡ measured x passed

-- at the end: the table sorted
pub record Settled (s table : List ℕ) (k : ℕ) : Type 0 where
  pub whole_blocks : WholeBlocks s
  pub fits : k ≤ length table
  pub sources : length s ≤ block_bytes * length table → Table s table k

-- or at a block that runs past the end
pub record PastEnd (s : List ℕ) (r : Refusal) : Type 0 where
  pub at : ℕ
  pub past_at : frames_of s ≡ past at
  pub is : r ≡ block_past_end at

abbrev pub EndedAs : List ℕ → List ℕ → Result ℕ Refusal → Type 0
EndedAs s table (Ok k) = Settled s table k
EndedAs s table (Err r) = PastEnd s r
