-- What callers may lean on, as statements about the fields by their places. Proved in proofs/Places.antt.
use Rattle.std.specs.Prelude.{ℕ, ◌*◌, ◌≤◌, ◌≡◌, List, length, get_or}
use Rattle.block.specs.declared.Block.{Block}
use Rattle.block.specs.declared.BlockRead.TheVariants.{Typed}
use Rattle.block.specs.Fields.{fields_of}
use Rattle.block.specs.Reading.{read_bytes}
use Rattle.difference.specs.Places.{values_in}

-- Bytes that are read as a typed block have its fields in their places.
abbrev pub FieldsAre : Type 0
FieldsAre = (bytes : List ℕ) (b : Block) → read_bytes bytes ≡ Typed b → values_in bytes ≡ fields_of b

-- A typed block has at most three fields for every eight of its bytes,
abbrev pub ThreeInEight : Type 0
ThreeInEight = (bytes : List ℕ) (b : Block) → read_bytes bytes ≡ Typed b → 8 * length (fields_of b) ≤ 3 * length bytes

-- and two typed blocks of one type have as many.
abbrev pub AsMany : Type 0
AsMany =
    (bytes bytes' : List ℕ) (b c : Block) → read_bytes bytes ≡ Typed b → read_bytes bytes' ≡ Typed c → get_or bytes 0 0 ≡ get_or bytes' 0 0 →
    length (fields_of b) ≡ length (fields_of c)
