-- The blocks of a packet read together: document 01, "The packet". A block is read as by itself, but for D4:
-- "a 17 or 18 with no well-sized block 14 for the same source anywhere in the packet, before or after".
use Rattle.std.specs.Prelude.{ℕ, Bool, false, ◌||◌, List, [], ◌∷◌, eqb, Option, Some, None}
use Rattle.refusal.specs.Answer.{unless}
use Rattle.block.specs.Reading.{read_block, needs_of, measures_of}
use Rattle.block.specs.declared.BlockRead.{BlockRead}
use Rattle.block.specs.declared.BlockRead.TheVariants.{Typed, Rle, Unknown, Dropped}
use Rattle.frame.specs.Frames.{Entry}
use Rattle.block.specs.declared.Reason.TheVariants.{Unmeasured}

-- a block of a packet by itself
unfoldable pub read_alone : Entry → BlockRead
read_alone e = read_block e.kind e.specific e.body

-- a well-sized block 14 for this source: one that reads as a typed 14 for it
abbrev pub names : Option ℕ → ℕ → Bool
names (Some measured) source = eqb measured source
names None source = false

abbrev pub measures : ℕ → Entry → Bool
measures source e = names (measures_of (read_alone e)) source

-- one of them stands anywhere in the list
unfoldable pub measured : ℕ → List Entry → Bool
measured source [] = false
measured source (e ∷ es) = measures source e || measured source es

-- D4, the last reason to drop a block
abbrev pub given : List Entry → Option ℕ → BlockRead → BlockRead
given es None answer = answer
given es (Some source) answer = unless (measured source es) (Dropped Unmeasured) answer

abbrev pub read_among : List Entry → BlockRead → BlockRead
read_among es (Typed b) = given es (needs_of b) (Typed b)
read_among es (Rle r) = Rle r
read_among es Unknown = Unknown
read_among es (Dropped reason) = Dropped reason

-- a block of the packet whose blocks are es
abbrev pub read_in : List Entry → Entry → BlockRead
read_in es e = read_among es (read_alone e)
