-- What the private functions of reading take: whole blocks.
use Rattle.std.specs.Prelude.{ℕ, ◌≡◌, List}
use Rattle.frame.specs.Frames.{Entry, whole, frames_of, entries_of}

-- the blocks of s, and that they are whole
abbrev pub blocks_of : List ℕ → List Entry
blocks_of s = entries_of (frames_of s)

abbrev pub WholeBlocks : List ℕ → Type 0
WholeBlocks s = frames_of s ≡ whole (blocks_of s)
