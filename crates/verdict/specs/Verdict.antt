-- What reading a block comes to as a number, and whether it is typed.
use Rattle.std.specs.Prelude.{ℕ, Bool, true, false}
use Rattle.block.specs.Types.{reason_number}
use Rattle.block.specs.declared.BlockRead.{BlockRead}
use Rattle.block.specs.declared.BlockRead.TheVariants.{Typed, Rle, Unknown, Dropped}

-- 0 typed, the reason 1 to 5 where dropped, 254 a good type 1, 255 unknown
abbrev pub verdict_of : BlockRead → ℕ
verdict_of (Typed b) = 0
verdict_of (Rle r) = 254
verdict_of (Dropped reason) = reason_number reason
verdict_of Unknown = 255

abbrev pub is_typed : BlockRead → Bool
is_typed (Typed b) = true
is_typed (Rle r) = false
is_typed (Dropped reason) = false
is_typed Unknown = false
