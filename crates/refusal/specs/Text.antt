-- A refusal as text, in ASCII: README.md, "What a refusal means": "`refused N at P` gives the reason's number and a place".
-- Document 01, "Sheet of examples", has both in decimal.
use Rattle.std.specs.Prelude.{ℕ, List, ◌++◌, codes, decimal}
use Rattle.refusal.specs.declared.Refusal.{Refusal}
use Rattle.refusal.specs.Table.{refusal_number, refusal_place}

-- `refused N at P`, with no line end
abbrev pub refusal_text : Refusal → List ℕ
refusal_text r = codes "refused " ++ decimal (refusal_number r) ++ codes " at " ++ decimal (refusal_place r)
