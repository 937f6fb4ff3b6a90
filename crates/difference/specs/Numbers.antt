-- The lent list of numbers, five an entry. Entries are added one after the other: each is counted, and written where the list has
-- room for it, so that a list of no numbers only counts.
use Rattle.std.specs.Prelude.{ℕ, ◌+◌, ◌*◌, ◌≡◌, cond, List, [], ◌∷◌, leb, length, set}
use Rattle.difference.specs.declared.Difference.{Difference}
use Rattle.difference.specs.Differences.{kind_number}

-- the entries as numbers
unfoldable pub numbers_of : List Difference → List ℕ
numbers_of [] = []
numbers_of (d ∷ ds) = kind_number d.kind ∷ d.block ∷ d.field ∷ d.first ∷ d.second ∷ numbers_of ds

-- entry number n in its place
abbrev pub placed : ℕ → Difference → List ℕ → List ℕ
placed n d out =
    set (set (set (set (set out (5 * n) (kind_number d.kind)) (5 * n + 1) d.block) (5 * n + 2) d.field) (5 * n + 3) d.first) (5 * n + 4) d.second

-- the list after these entries, of which the first has number n
unfoldable pub written : ℕ → List Difference → List ℕ → List ℕ
written n [] out = out
written n (d ∷ ds) out = written (n + 1) ds (cond (leb (5 * n + 5) (length out)) (placed n d out) out)

-- what a call does to a list with n entries: the number of entries afterwards, and the list
pub record Adds (ds : List Difference) (out out' : List ℕ) (n r : ℕ) : Type 0 where
  pub count : r ≡ n + length ds
  pub list : out' ≡ written n ds out
