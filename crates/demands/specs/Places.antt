-- What bytes a block is: its type, document 01's table of block lengths, and its fields in the places of
-- crates/difference/specs/Places.antt, the diagrams as a table.
use Rattle.std.specs.Prelude.{ℕ, ◌+◌, ◌*◌, ◌≡◌, true, List, map, length, get_or}
use Rattle.block.specs.declared.Block.{Block}
use Rattle.block.specs.declared.Block.TheVariants.{Measured, Loss, Discard, Effective, Streams}
use Rattle.block.specs.Fields.{fields_of}
use Rattle.difference.specs.Places.{value_at, places_of}
use Rattle.encode.specs.Words.{writable}

-- type, and "words after the first (block length)"
abbrev pub type_number : Block → ℕ
type_number (Measured m) = 14
type_number (Loss l) = 17
type_number (Discard d) = 18
type_number (Effective e) = 240
type_number (Streams t) = 241

abbrev pub block_length : Block → ℕ
block_length (Measured m) = 7
block_length (Loss l) = 3
block_length (Discard d) = 2
block_length (Effective e) = 2
block_length (Streams t) = 11

-- These bytes are this block: type, size, every field in its place, and nothing that a reader would drop. Reserved bits do
-- not matter.
pub record IsBlock (s : List ℕ) (b : Block) : Type 0 where
  pub type : get_or s 0 0 ≡ type_number b
  pub size : length s ≡ 4 * (block_length b + 1)
  pub fields : fields_of b ≡ map (value_at s) (places_of (type_number b))
  pub good : writable b ≡ true
