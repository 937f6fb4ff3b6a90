-- The list while it is filled, for the contracts of the private functions. Of the first 2 × count entries, count the
-- number of blocks, the first half holds the measured sources and the second half the blocks, each packed into one
-- number.
use Rattle.std.specs.Prelude.{ℕ, ◌+◌, ◌*◌, ◌/◌, ◌%◌, ◌≤◌, ◌≡◌, List, [], ◌∷◌, ◌++◌, length, take, drop}
use Rattle.frame.specs.Frames.{Entry}
use Rattle.packet.specs.Blocks.{measured, read_in}
use Rattle.packet.specs.Steps.{blocks_of, WholeBlocks}
use Rattle.verdict.specs.Verdict.{verdict_of}
use Rattle.verdict.specs.Sources.{member, Table}

-- more than any verdict
abbrev pub verdicts : ℕ
verdicts = 256

-- a block's place and its verdict among the blocks `all`
abbrev pub packed_of : List Entry → Entry → ℕ
packed_of all e = e.place * verdicts + verdict_of (read_in all e)

unfoldable pub packing : List Entry → List Entry → List ℕ
packing all [] = []
packing all (e ∷ es) = packed_of all e ∷ packing all es

-- packed blocks taken apart
unfoldable pub spread_of : List ℕ → List ℕ
spread_of [] = []
spread_of (p ∷ ps) = p / verdicts ∷ p % verdicts ∷ spread_of ps

-- whole blocks, places that fit a packed number, and room for two numbers a block
pub record Room (s out : List ℕ) (count : ℕ) : Type 0 where
  pub whole_blocks : WholeBlocks s
  pub short : length s ≤ 262144
  pub counted : count ≡ length (blocks_of s)
  pub fits : 2 * count ≤ length out

-- the blocks judged as if nothing were measured, and in front of them k sources as they came
pub record Marked (s old new : List ℕ) (count k : ℕ) : Type 0 where
  pub few : k ≤ count
  pub same : (x : ℕ) → member x (take k new) ≡ measured x (blocks_of s)
  pub packed : drop count new ≡ packing [] (blocks_of s) ++ drop (2 * count) old

-- the same with the sources sorted
pub record Settleable (s out : List ℕ) (count k : ℕ) : Type 0 where
  pub room : Room s out count
  pub few : k ≤ count
  pub table : Table s out k
  pub packed : drop count out ≡ packing [] (blocks_of s) ++ drop (2 * count) out
