-- An entry of the list of differences: document 02, ticket 1, "five an entry: kind, block, field, both readings, unused ones 0.
-- Kinds: 0 sender, 1 field, 2 whole block, 3 only in the first, 4 only in the second."
use Rattle.std.specs.Prelude.{ℕ, suc, cond, List, [], ◌∷◌, ◌++◌, eqb}
use Rattle.difference.specs.declared.Difference.{Difference}
use Rattle.difference.specs.declared.Kind.{Kind}
use Rattle.difference.specs.declared.Kind.TheVariants.{Sender, Field, Block, OnlyFirst, OnlySecond}

abbrev pub kind_number : Kind → ℕ
kind_number Sender = 0
kind_number Field = 1
kind_number Block = 2
kind_number OnlyFirst = 3
kind_number OnlySecond = 4

abbrev pub senders : ℕ → ℕ → Difference
senders a b = record { kind = Sender; block = 0; field = 0; first = a; second = b }

abbrev pub fields : ℕ → ℕ → ℕ → ℕ → Difference
fields k f a b = record { kind = Field; block = k; field = f; first = a; second = b }

abbrev pub whole_block : ℕ → Difference
whole_block k = record { kind = Block; block = k; field = 0; first = 0; second = 0 }

abbrev pub only_first : ℕ → Difference
only_first k = record { kind = OnlyFirst; block = k; field = 0; first = 0; second = 0 }

abbrev pub only_second : ℕ → Difference
only_second k = record { kind = OnlySecond; block = k; field = 0; first = 0; second = 0 }

-- this entry, where the two numbers are not the same
abbrev pub where_unequal : ℕ → ℕ → Difference → List Difference
where_unequal a b d = cond (eqb a b) [] (d ∷ [])

-- the fields of block k that differ, from field f on: "fields in layout order from 0"
unfoldable pub fields_from : ℕ → ℕ → List ℕ → List ℕ → List Difference
fields_from k f [] ys = []
fields_from k f (x ∷ xs) [] = []
fields_from k f (x ∷ xs) (y ∷ ys) = where_unequal x y (fields k f x y) ++ fields_from k (suc f) xs ys
