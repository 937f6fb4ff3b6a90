-- The cases of a figure. Assumes nothing.
use Prim.Native.Nat.{ℕ}
use mathlib.Core.Path.{◌≡◌}
use mathlib.Core.List.{List, ◌++◌}
use borrow.Author.Tests.{ne_eqb}
use Rattle.text.specs.Text.{decimal_of}
use Rattle.labels.specs.Words as words
use Rattle.block.specs.Reading.{unavailable}
use Rattle.labels.specs.Labels.{over_range, figure}

module _ (label : List ℕ) (r : ℕ) where
  pub figure_over : r ≡ over_range → label ++ words.over ≡ figure label r
  unfolding figure
  figure_over h = rw h

  pub figure_none : r ≡ unavailable → label ++ words.none ≡ figure label r
  unfolding figure
  figure_none h = rw h

  pub figure_number : (r ≡ over_range → ⊥) → (r ≡ unavailable → ⊥) → label ++ decimal_of r ≡ figure label r
  unfolding figure
  figure_number a b = rw (ne_eqb r over_range a, ne_eqb r unavailable b)
