-- The lines of a listing: document 01, "Sheet of examples". "Here r is a decimal, `over` or `none`; S is eight
-- lower-case hex digits, D the reason's number alone (4 for D4), `bytes n` counts the body, the rest decimal."
use Rattle.std.specs.Prelude.{ℕ, List, ◌++◌}
use Rattle.refusal.specs.declared.Refusal.{Refusal}
use Rattle.refusal.specs.Table.{refusal_number, refusal_place}
use Rattle.block.specs.declared.LossRle.{LossRle}
use Rattle.block.specs.declared.BlockRead.{BlockRead}
use Rattle.block.specs.declared.BlockRead.TheVariants.{Typed, Rle, Unknown, Dropped}
use Rattle.block.specs.Types.{reason_number}
use Rattle.text.specs.Text.{decimal_of}
use Rattle.labels.specs.Words as words
use Rattle.labels.specs.Labels.{number, source}
use Rattle.fields.specs.Fields.{typed_text}

-- room that is enough for any line, in bytes
abbrev pub line_room : ℕ
line_room = 512

-- `k rle source S begin b end e lost n`, after the k: document 02, ticket 5
unfoldable pub rle_text : LossRle → List ℕ
rle_text r = source words.rle_source r.source ++ number words.begin r.begin ++ number words.end r.end ++ number words.lost r.lost

-- the line of block k, of this type and body size, by what reading it gave: typed, a good type 1, `k unknown type T bytes n`,
-- or `k dropped type T reason D`
abbrev pub block_line : ℕ → ℕ → ℕ → BlockRead → List ℕ
block_line k kind size (Typed b) = decimal_of k ++ typed_text b ++ words.newline
block_line k kind size (Rle r) = decimal_of k ++ rle_text r ++ words.newline
block_line k kind size Unknown = decimal_of k ++ number words.unknown_type kind ++ number words.bytes size ++ words.newline
block_line k kind size (Dropped d) = decimal_of k ++ number words.dropped_type kind ++ number words.reason (reason_number d) ++ words.newline

-- `ssrc SSSSSSSS blocks n`
abbrev pub head_line : ℕ → ℕ → List ℕ
head_line sender count = source words.ssrc sender ++ number words.blocks count ++ words.newline

-- `refused N at P`
abbrev pub refusal_line : Refusal → List ℕ
refusal_line r = number words.refused (refusal_number r) ++ number words.place (refusal_place r) ++ words.newline
