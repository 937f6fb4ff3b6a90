-- What callers may lean on, as statements about the definitions that the calls promise. Proved in proofs/.
use Rattle.std.specs.Prelude.{ℕ, ◌≤◌, length}
use Rattle.refusal.specs.declared.Refusal.{Refusal}
use Rattle.block.specs.declared.BlockRead.{BlockRead}
use Rattle.lines.specs.Lines.{line_room, block_line, head_line, refusal_line}

-- Every line fits into the room that callers keep for it.
abbrev pub BlockFits : Type 0
BlockFits = (k kind size : ℕ) (read : BlockRead) → length (block_line k kind size read) ≤ line_room

abbrev pub HeadFits : Type 0
HeadFits = (sender count : ℕ) → length (head_line sender count) ≤ line_room

abbrev pub RefusalFits : Type 0
RefusalFits = (r : Refusal) → length (refusal_line r) ≤ line_room
