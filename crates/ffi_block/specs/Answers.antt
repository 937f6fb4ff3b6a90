-- What the boundary's struct holds for each answer about one block: its verdict as crate verdict numbers it, and its fields; and
-- where the call refused, the paper's number and place.
use Rattle.std.specs.Prelude.{ℕ, List, [], ◌∷◌, ◌++◌, replicate, take, drop, Result, Ok, Err}
use Rattle.refusal.specs.declared.Refusal.{Refusal}
use Rattle.block.specs.Fields.{fields_of}
use Rattle.block.specs.Layouts.{covered}
use Rattle.block.specs.declared.LossRle.{LossRle}
use Rattle.block.specs.declared.Block.{Block}
use Rattle.block.specs.declared.Block.TheVariants.{Measured, Loss, Discard, Effective, Streams}
use Rattle.block.specs.declared.BlockRead.{BlockRead}
use Rattle.block.specs.declared.BlockRead.TheVariants.{Typed, Rle, Unknown, Dropped}
use Rattle.packet.specs.declared.BlockAt.{BlockAt}
use Rattle.verdict.specs.Verdict.{verdict_of}
use Rattle.ffi_answer.specs.Answers.{none, refusal_out}
use Rattle.ffi_block.specs.declared.BlockFields.{BlockFields}

-- thirteen numbers, none of them a field
abbrev pub no_fields : List ℕ
no_fields = replicate 13 0

-- a block's fields in layout order; a 241 has the packets covered after its end
abbrev pub shown_of : Block → List ℕ
shown_of (Measured m) = fields_of (Measured m)
shown_of (Loss l) = fields_of (Loss l)
shown_of (Discard d) = fields_of (Discard d)
shown_of (Effective e) = fields_of (Effective e)
shown_of (Streams t) = take 3 (fields_of (Streams t)) ++ covered t.begin t.end ∷ drop 3 (fields_of (Streams t))

-- the same with zeros behind, thirteen numbers
abbrev pub fields_out : Block → List ℕ
fields_out b = take 13 (shown_of b ++ no_fields)

-- a good type 1, with the packets covered after its end as well
abbrev pub rle_out : LossRle → List ℕ
rle_out r = take 13 ((r.source ∷ r.begin ∷ r.end ∷ covered r.begin r.end ∷ r.lost ∷ []) ++ no_fields)

abbrev pub read_fields : BlockRead → List ℕ
read_fields (Typed b) = fields_out b
read_fields (Rle r) = rle_out r
read_fields Unknown = no_fields
read_fields (Dropped reason) = no_fields

abbrev pub read_out : ℕ → BlockRead → BlockFields
read_out kind r = record { refusal = none; block_type = kind; verdict = verdict_of r; fields = read_fields r }

-- refused: unknown, since 0 would read as typed
abbrev pub block_out : Result BlockAt Refusal → BlockFields
block_out (Ok found) = read_out found.kind found.read
block_out (Err r) = record { refusal = refusal_out r; block_type = 0; verdict = verdict_of Unknown; fields = no_fields }
