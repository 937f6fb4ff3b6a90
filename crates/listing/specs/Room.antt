-- What the steps of the listing compute and assume, for the contracts of its functions.
use Rattle.std.specs.Prelude.{ℕ, ◌+◌, ◌≤◌, ◌≡◌, cond, List, ◌++◌, eqb, length, take, drop}
use Rattle.block.specs.Types.{unmeasured}
use Rattle.block.specs.declared.BlockRead.{BlockRead}
use Rattle.block.specs.declared.BlockRead.TheVariants.{Dropped}
use Rattle.frame.specs.Frames.{body_length, entry_at}
use Rattle.packet.specs.Blocks.{read_in}
use Rattle.packet.specs.Steps.{WholeBlocks, blocks_of}
use Rattle.survey.specs.Survey.{listing}
use Rattle.text.specs.declared.Page.{Page}
use Rattle.lines.specs.Lines.{line_room, block_line}
use Rattle.block.specs.declared.Reason.TheVariants.{Unmeasured}

-- the blocks of s are whole, and the table begins with the place and the verdict of each
pub record Listed (s table : List ℕ) : Type 0 where
  pub blocks : WholeBlocks s
  pub rest : List ℕ
  pub told : table ≡ listing (blocks_of s) (blocks_of s) ++ rest

-- a block read by itself, and its verdict among the blocks of its packet: only D4 is not seen in the block itself
unfoldable pub judged_by : BlockRead → ℕ → BlockRead
judged_by own verdict = cond (eqb verdict unmeasured) (Dropped Unmeasured) own

-- the line of block number k, which stands at `at`, read among the blocks of its packet
unfoldable pub line_at : List ℕ → ℕ → ℕ → List ℕ
line_at s at k = block_line k (entry_at s at).kind (body_length s at) (read_in (blocks_of s) (entry_at s at))

-- the page goes on inside its bytes, which have room for a line
pub record Roomy (page : Page) : Type 0 where
  pub inside : page.at ≤ length page.bytes.now
  pub room : line_room ≤ length page.bytes.now

-- a text put whole into a page; the page's other bytes are as they were
pub record Added (page after : Page) (text : List ℕ) : Type 0 where
  pub ends : after.at ≡ page.at + length text
  pub inside : after.at ≤ length page.bytes.now
  pub long : length after.bytes.now ≡ length page.bytes.now
  pub holds : after.bytes.now ≡ take page.at page.bytes.now ++ text ++ drop after.at page.bytes.now
