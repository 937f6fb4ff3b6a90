-- A search in a table, for the contracts of the private functions: x, if it stands anywhere in a sorted table, stands among the
-- size numbers from low on.
use Rattle.std.specs.Prelude.{ℕ, ◌+◌, ◌<◌, ◌≤◌, List, length, get_or}
use Rattle.sorting.specs.Order.{Sorted}

pub record Among (table : List ℕ) (x low size : ℕ) : Type 0 where
  pub below : 0 < low → get_or table low 0 ≤ x
  pub above : (i : ℕ) → low + size ≤ i → i < length table → x < get_or table i 0

pub record Search (table : List ℕ) (x low size : ℕ) : Type 0 where
  pub some : 0 < size
  pub within : low + size ≤ length table
  pub among : Sorted table → Among table x low size
