-- How long the text of a label can be: what follows a label takes at most twenty bytes. Assumes nothing.
use Prim.Native.Nat.{ℕ, ◌+◌, ◌≤◌}
use mathlib.Core.Path.{◌≡◌}
use mathlib.Core.List.{List}
use native.Mathlib.Omega.{arith}
use native.Mathlib.Decide.{ℕ_discrete}
use lib.ListN.{length, length-append}
use Rattle.block.specs.Reading.{unavailable}
use Rattle.text.specs.Text.{decimal_most}
use Rattle.text.proofs.Digits.{length_decimal, length_hex}
use Rattle.labels.specs.Labels.{over_range, number, source, figure}
use Rattle.labels.proofs.Figures.{figure_over, figure_none, figure_number}

module _ (label : List ℕ) (w : ℕ) (is : length label ≡ w) (n : ℕ) where
  pub number_most : length (number label n) ≤ w + 20
  unfolding number
  number_most = simp length-append (omega (arith, length_decimal decimal_most n))

  pub source_most : length (source label n) ≤ w + 8
  unfolding source
  source_most = simp length-append (omega (arith, length_hex n))

  pub figure_most : length (figure label n) ≤ w + 20
  figure_most = go (ℕ_discrete n over_range) (ℕ_discrete n unavailable)
    where
      go : Dec (n ≡ over_range) → Dec (n ≡ unavailable) → length (figure label n) ≤ w + 20
      go (yes o) d = rw (← figure_over label n o) (simp length-append (omega arith))
      go (no o) (yes u) = rw (← figure_none label n u) (simp length-append (omega arith))
      go (no o) (no u) = rw (← figure_number label n o u) (simp length-append (omega (arith, length_decimal decimal_most n)))
