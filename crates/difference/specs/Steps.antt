-- What the private calls are asked for: the fields in some of the places, one after the other.
use Rattle.std.specs.Prelude.{ℕ, ◌+◌, ◌≤◌, List, [], map, eqb, length}
use Rattle.refusal.specs.Answer.{unless}
use Rattle.difference.specs.declared.Difference.{Difference}
use Rattle.difference.specs.Differences.{where_unequal, fields, fields_from}
use Rattle.difference.specs.Numbers.{Adds}
use Rattle.difference.specs.Places.{Place, value_at, places_of, size_of}

-- a count far above any that a u32 and one block's fields lead to, and so small that five times it is still a number
abbrev pub count_max : ℕ
count_max = 8589934592

-- field f of block k, where its two readings are not the same
pub record AddsField (k f a b : ℕ) (out out' : List ℕ) (n r : ℕ) : Type 0 where
  pub adds : Adds (where_unequal a b (fields k f a b)) out out' n r
  pub few : r ≤ n + 1

-- the fields in these places of two blocks, from field f on
abbrev pub in_places : ℕ → ℕ → List Place → List ℕ → List ℕ → List Difference
in_places k f places x y = fields_from k f (map (value_at x) places) (map (value_at y) places)

pub record AddsPlaces (k f : ℕ) (places : List Place) (x y out out' : List ℕ) (n r : ℕ) : Type 0 where
  pub adds : Adds (in_places k f places x y) out out' n r
  pub few : r ≤ n + length places

-- the fields of two blocks of this type and of one size; none where it is not the type's
unfoldable pub of_type : ℕ → ℕ → List ℕ → List ℕ → List Difference
of_type type k x y = unless (eqb (length x) (size_of type)) [] (in_places k 0 (places_of type) x y)
