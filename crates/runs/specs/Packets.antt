-- What the private functions take: packets that are received or lost, and how many of them a vector has.
use Rattle.std.specs.Prelude.{◌≡◌, ℕ, ◌+◌, ◌-◌, ◌*◌, ◌<◌, ◌≤◌, min, List, length, slice_index}
use Rattle.trace.specs.Trace.{lost}
use Rattle.chunk.specs.Chunks.{vector_bits}

abbrev pub Bits : List ℕ → Type 0
Bits s = (i : ℕ) → slice_index s i ≤ lost

-- the packets from `first` on, no more than a vector has
pub record Few (s : List ℕ) (first n : ℕ) : Type 0 where
  pub some : first < length s
  pub is : n ≡ min (length s - first) vector_bits

-- four packets as bits, 1 for lost
unfoldable pub four_from : List ℕ → ℕ → ℕ
four_from s i = (slice_index s i * 2 + slice_index s (i + 1)) * 4 + (slice_index s (i + 2) * 2 + slice_index s (i + 3))
