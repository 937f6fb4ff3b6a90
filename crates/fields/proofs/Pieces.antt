-- Pieces put one after the other into a page are their joined text put. Assumes nothing.
use Prim.Native.Nat.{ℕ}
use mathlib.Core.Path.{◌≡◌, sym}
use mathlib.Core.List.{List, [], ◌∷◌}
use Rattle.text.specs.declared.Page.{Page}
use Rattle.text.specs.Page.{put_in}
use Rattle.text.proofs.Room.{put_nothing}
use Rattle.text.proofs.Joined.{joined_in_page}
use Rattle.fields.specs.Fields.{Piece, piece_text, pieces_text}

module _ (page : Page) (fields : List ℕ) where
  pub put_first : (p : Piece) (ps : List Piece) → put_in page (pieces_text fields (p ∷ ps)) ≡ put_in (put_in page (piece_text fields p)) (pieces_text fields ps)
  unfolding pieces_text
  put_first p ps = sym (joined_in_page page (piece_text fields p) (pieces_text fields ps))

  pub put_last : put_in page (pieces_text fields []) ≡ page
  unfolding pieces_text
  put_last = sym (put_nothing page)
