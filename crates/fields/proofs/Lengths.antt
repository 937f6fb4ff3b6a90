-- How long the text of a typed block can be: at most 400 bytes. Assumes nothing.
use Prim.Native.Nat.{ℕ, ◌+◌, ◌≤◌}
use mathlib.Core.Path.{refl}
use mathlib.Core.List.{List, [], ◌∷◌}
use native.Mathlib.Omega.{arith}
use lib.ListN.{length, get_or, length-append}
use Rattle.block.specs.declared.Block.{Block}
use Rattle.block.specs.declared.Block.TheVariants.{Measured, Loss, Discard, Effective, Streams}
use Rattle.block.specs.Fields.{fields_of}
use Rattle.labels.proofs.Lengths.{number_most, source_most, figure_most}
use Rattle.fields.specs.Fields.{Piece, Source, Number, Figure, Covered, Word, pieces, piece_text, pieces_text, typed_text}

abbrev label : Piece → List ℕ
label (Source l i) = l
label (Number l i) = l
label (Figure l i) = l
label (Covered l) = l
label (Word l) = l

-- the most that pieces take: twenty bytes after each label
abbrev room : List Piece → ℕ
room [] = 0
room (p ∷ ps) = length (label p) + 20 + room ps

module _ (fields : List ℕ) where
  piece_most : (p : Piece) → length (piece_text fields p) ≤ length (label p) + 20
  piece_most (Source l i) = omega (arith, source_most l (length l) refl (get_or fields i 0))
  piece_most (Number l i) = number_most l _ refl _
  piece_most (Figure l i) = figure_most l _ refl _
  piece_most (Covered l) = number_most l _ refl _
  piece_most (Word l) = omega arith

  pieces_most : (ps : List Piece) → length (pieces_text fields ps) ≤ room ps
  unfolding pieces_text
  pieces_most [] = omega arith
  pieces_most (p ∷ ps) = simp length-append (omega (arith, piece_most p, pieces_most ps))

pub typed_most : (b : Block) → length (typed_text b) ≤ 400
unfolding typed_text
typed_most b = omega (arith, pieces_most (fields_of b) (pieces b), small b)
  where
    small : (b : Block) → room (pieces b) ≤ 400
    small (Measured m) = omega arith
    small (Loss l) = omega arith
    small (Discard d) = omega arith
    small (Effective e) = omega arith
    small (Streams t) = omega arith
