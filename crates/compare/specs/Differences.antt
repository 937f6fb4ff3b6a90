-- The differences of two packets: document 02, ticket 1. "Add a tool that lists every differing field of their two packets,
-- blocks paired by index." Each packet is its sender and what is compared of each of its blocks.
use Rattle.std.specs.Prelude.{ℕ, suc, Bool, true, false, cond, ◌&&◌, List, [], ◌∷◌, ◌++◌, eqb}
use Rattle.block.specs.Fields.{fields_of}
use Rattle.block.specs.declared.BlockRead.{BlockRead}
use Rattle.block.specs.declared.BlockRead.TheVariants.{Typed, Rle, Unknown, Dropped}
use Rattle.frame.specs.Frames.{Entry}
use Rattle.packet.specs.Blocks.{read_in}
use Rattle.difference.specs.declared.Difference.{Difference}
use Rattle.difference.specs.Differences.{senders, whole_block, only_first, only_second, where_unequal, fields_from}

-- What is compared of a block: of a typed one its type and its fields in layout order, "the flag first, reserved bits left
-- out"; of any other its bytes, "header included": type, type-specific byte and body, of which the block length is the size. Ticket 5:
-- "Ticket 1 compares type 1 by bytes".
pub data Content : Type 0 where
  typed : ℕ → List ℕ → Content
  bytes : List ℕ → Content

abbrev pub content_of : Entry → BlockRead → Content
content_of e (Typed b) = typed e.kind (fields_of b)
content_of e (Rle r) = bytes (e.kind ∷ e.specific ∷ e.body)
content_of e Unknown = bytes (e.kind ∷ e.specific ∷ e.body)
content_of e (Dropped reason) = bytes (e.kind ∷ e.specific ∷ e.body)

-- of each block of `es`, read among the blocks `all` of its packet: D4 is a reason to drop a block
unfoldable pub contents : List Entry → List Entry → List Content
contents all [] = []
contents all (e ∷ es) = content_of e (read_in all e) ∷ contents all es

unfoldable pub same_numbers : List ℕ → List ℕ → Bool
same_numbers [] [] = true
same_numbers [] (y ∷ ys) = false
same_numbers (x ∷ xs) [] = false
same_numbers (x ∷ xs) (y ∷ ys) = eqb x y && same_numbers xs ys

-- block k of both: field by field where both are typed and of one type; else "whole block (another type, typed against
-- dropped, or unknown or dropped with other bytes, header included)"
abbrev pub between : ℕ → Content → Content → List Difference
between k (typed t xs) (typed u ys) = cond (eqb t u) (fields_from k 0 xs ys) (whole_block k ∷ [])
between k (typed t xs) (bytes ys) = whole_block k ∷ []
between k (bytes xs) (typed u ys) = whole_block k ∷ []
between k (bytes xs) (bytes ys) = cond (same_numbers xs ys) [] (whole_block k ∷ [])

-- the blocks from number k on, "paired by index"
unfoldable pub only_seconds : ℕ → List Content → List Difference
only_seconds k [] = []
only_seconds k (y ∷ ys) = only_second k ∷ only_seconds (suc k) ys

unfoldable pub blocks_from : ℕ → List Content → List Content → List Difference
blocks_from k [] ys = only_seconds k ys
blocks_from k (x ∷ xs) [] = only_first k ∷ blocks_from (suc k) xs []
blocks_from k (x ∷ xs) (y ∷ ys) = between k x y ++ blocks_from (suc k) xs ys

-- "The sender comes first, then blocks"
abbrev pub differences : ℕ → List Content → ℕ → List Content → List Difference
differences a xs b ys = where_unequal a b (senders a b) ++ blocks_from 0 xs ys
