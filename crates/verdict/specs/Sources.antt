-- The table of measured sources, a sorted list in which a source stands exactly where a well-sized measurement block
-- for it stands in the packet: how it grows by a block's source, and how it settles D4, "a 17 or 18 with no well-sized
-- block 14 for the same source anywhere in the packet, before or after".
use Rattle.std.specs.Prelude.{ℕ, ◌+◌, ◌≤◌, ◌≡◌, Bool, true, false, cond, ◌||◌, List, [], ◌∷◌, eqb, leb, length, take, set, Option, Some, None}
use Rattle.sorting.specs.Order.{Sorted}
use Rattle.block.specs.Reading.{needs_of}
use Rattle.block.specs.declared.BlockRead.{BlockRead}
use Rattle.block.specs.declared.BlockRead.TheVariants.{Typed, Rle, Unknown, Dropped}
use Rattle.packet.specs.Blocks.{measured}
use Rattle.packet.specs.Steps.{blocks_of}

unfoldable pub member : ℕ → List ℕ → Bool
member x [] = false
member x (y ∷ ys) = eqb y x || member x ys

-- a table of this size with k sources, and the source that a block measures, if any, behind them; a full one stays
abbrev pub gathered_count : Option ℕ → ℕ → ℕ → ℕ
gathered_count (Some source) size k = cond (leb size k) k (k + 1)
gathered_count None size k = k

abbrev pub gathered_table : Option ℕ → List ℕ → ℕ → List ℕ
gathered_table (Some source) table k = cond (leb (length table) k) table (set table k source)
gathered_table None table k = table

-- the first k numbers of `table` are the measured sources of s
pub record Table (s table : List ℕ) (k : ℕ) : Type 0 where
  pub fits : k ≤ length table
  pub sorted : Sorted (take k table)
  pub same : (x : ℕ) → member x (take k table) ≡ measured x (blocks_of s)

-- whether the table has what a typed block needs
abbrev pub met_by : List ℕ → Option ℕ → Bool
met_by table None = true
met_by table (Some source) = member source table

-- whether a block that was read by itself is typed in a packet whose measured sources are those of the table
abbrev pub typed_by : List ℕ → BlockRead → Bool
typed_by table (Typed b) = met_by table (needs_of b)
typed_by table (Rle r) = false
typed_by table Unknown = false
typed_by table (Dropped reason) = false
