-- The blocks of a packet as parts of its bytes, in the order in which they stand.
use Rattle.std.specs.Prelude.{ℕ, zero, suc, List, [], ◌∷◌, leb, length}
use Rattle.refusal.specs.Answer.{unless}
use Rattle.frame.specs.declared.BlockWalk.{BlockWalk}
use Rattle.frame.specs.Frames.{next_at, block_at}

-- the bytes of each block from offset `at` on, at most `most` of them, as far as whole blocks go
unfoldable pub parts_from : ℕ → List ℕ → ℕ → List (List ℕ)
parts_from zero s at = []
parts_from (suc most) s at =
    unless (leb (next_at s at) (length s)) [] (block_at s at ∷ parts_from most s (next_at s at))

-- all of them: there are never more than s has bytes
abbrev pub parts_in : List ℕ → ℕ → List (List ℕ)
parts_in s at = parts_from (length s) s at

-- those that a walk has before it
abbrev pub parts_left : BlockWalk → List (List ℕ)
parts_left b = parts_in b.packet.now b.at
