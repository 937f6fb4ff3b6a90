-- The typed blocks of a listing in text: document 01, "Sheet of examples". "Here r is a decimal, `over` or `none`; S is eight
-- lower-case hex digits", the rest decimal. A line shows the fields of its block, each by its index in layout order.
use Rattle.std.specs.Prelude.{ℕ, List, [], ◌∷◌, ◌++◌, map, get_or}
use Rattle.block.specs.declared.Block.{Block}
use Rattle.block.specs.declared.Block.TheVariants.{Measured, Loss, Discard, Effective, Streams}
use Rattle.block.specs.Layouts.{covered}
use Rattle.block.specs.Fields.{fields_of}
use Rattle.labels.specs.Words as words
use Rattle.labels.specs.Labels.{number, source, figure}

-- a piece of a line: a label, and after it the field at an index as S, as a decimal or as r; or the packets covered; or nothing
pub data Piece : Type 0 where
  Source : List ℕ → ℕ → Piece
  Number : List ℕ → ℕ → Piece
  Figure : List ℕ → ℕ → Piece
  Covered : List ℕ → Piece
  Word : List ℕ → Piece

-- the eight numbers at the end of a 241's line
abbrev pub counts : List Piece
counts = map (Number words.space) (4 ∷ 5 ∷ 6 ∷ 7 ∷ 8 ∷ 9 ∷ 10 ∷ 11 ∷ [])

abbrev pub pieces : Block → List Piece
-- `k meas source S first F efirst A elast B interval D seconds X fraction Y`, after the k
pieces (Measured m) =
    Source words.meas_source 0 ∷ Number words.first 1 ∷ Number words.efirst 2 ∷ Number words.elast 3
    ∷ Number words.interval 4 ∷ Number words.seconds 5 ∷ Number words.fraction 6 ∷ []
-- `k loss source S i I burst r gap r mean r var r`
pieces (Loss l) =
    Source words.loss_source 1 ∷ Number words.flag 0 ∷ Figure words.burst 2 ∷ Figure words.gap 3
    ∷ Figure words.mean 4 ∷ Figure words.variance 5 ∷ []
-- `k discard source S i I burst r gap r`
pieces (Discard d) = Source words.discard_source 1 ∷ Number words.flag 0 ∷ Figure words.burst 2 ∷ Figure words.gap 3 ∷ []
-- `k eli source S index N`
pieces (Effective e) = Source words.eli_source 0 ∷ Number words.index 1 ∷ []
-- `k ts source S begin b end e packets p streams t counts` and eight numbers
pieces (Streams t) =
    Source words.ts_source 0 ∷ Number words.begin 1 ∷ Number words.end 2 ∷ Covered words.packets
    ∷ Number words.streams 3 ∷ Word words.counts ∷ counts

-- a piece's text; a 241 has its begin and end at 1 and 2
abbrev pub piece_text : List ℕ → Piece → List ℕ
piece_text fields (Source label i) = source label (get_or fields i 0)
piece_text fields (Number label i) = number label (get_or fields i 0)
piece_text fields (Figure label i) = figure label (get_or fields i 0)
piece_text fields (Covered label) = number label (covered (get_or fields 1 0) (get_or fields 2 0))
piece_text fields (Word label) = label

unfoldable pub pieces_text : List ℕ → List Piece → List ℕ
pieces_text fields [] = []
pieces_text fields (p ∷ ps) = piece_text fields p ++ pieces_text fields ps

unfoldable pub typed_text : Block → List ℕ
typed_text b = pieces_text (fields_of b) (pieces b)
