-- Where the fields of the five kinds stand in a block's bytes: the diagrams of RFC 6776, section 4, RFC 7004, sections
-- 3.1 and 3.2, and documents 002 and 004, a row being four bytes. Reserved bits are no fields, nor are the packets that a 241
-- covers, which are computed from its begin and end.
use Rattle.std.specs.Prelude.{ℕ, ◌/◌, cond, List, [], ◌∷◌, map, eqb, length, get_or}
use Rattle.refusal.specs.Answer.{unless}
use Rattle.wire.specs.BigEndian.{u16_at, u32_at}
use Rattle.block.specs.Types.{measurement_type, loss_type, discard_type, effective_type, streams_type}
use Rattle.difference.specs.declared.Difference.{Difference}
use Rattle.difference.specs.Differences.{fields_from}

-- the interval flag, in the top two bits of byte 1; a 16-bit number; a 32-bit number, by its first byte
pub data Place : Type 0 where
  flag : Place
  half : ℕ → Place
  word : ℕ → Place

abbrev pub value_at : List ℕ → Place → ℕ
value_at s flag = get_or s 1 0 / 64
value_at s (half i) = u16_at s i
value_at s (word i) = u32_at s i

-- in the order of `fields_of`; a type that is not listed has none
abbrev pub places_of : ℕ → List Place
places_of type =
    cond (eqb type measurement_type) (word 4 ∷ half 10 ∷ word 12 ∷ word 16 ∷ word 20 ∷ word 24 ∷ word 28 ∷ [])
    (cond (eqb type loss_type) (flag ∷ word 4 ∷ half 8 ∷ half 10 ∷ half 12 ∷ half 14 ∷ [])
    (cond (eqb type discard_type) (flag ∷ word 4 ∷ half 8 ∷ half 10 ∷ [])
    (cond (eqb type effective_type) (word 4 ∷ half 8 ∷ [])
    (cond (eqb type streams_type)
    (word 4 ∷ half 8 ∷ half 10 ∷ word 12 ∷ word 16 ∷ word 20 ∷ word 24 ∷ word 28 ∷ word 32 ∷ word 36 ∷ word 40 ∷ word 44 ∷ [])
    []))))

-- the numbers that stand in the places of this type
abbrev pub values_by : ℕ → List ℕ → List ℕ
values_by type bytes = map (value_at bytes) (places_of type)

-- the bytes of a block of this type, its first word included; 0 for a type that is not listed
abbrev pub size_of : ℕ → ℕ
size_of type =
    cond (eqb type measurement_type) 32
    (cond (eqb type loss_type) 16
    (cond (eqb type discard_type) 12
    (cond (eqb type effective_type) 12
    (cond (eqb type streams_type) 48
    0))))

-- the fields of a block with these bytes, by the type that they name; one of another size has none
unfoldable pub values_in : List ℕ → List ℕ
values_in bytes = unless (eqb (length bytes) (size_of (get_or bytes 0 0))) [] (values_by (get_or bytes 0 0) bytes)

-- the fields in which two blocks of one type differ, both as number k; none of two types
unfoldable pub field_differences : ℕ → List ℕ → List ℕ → List Difference
field_differences k x y = unless (eqb (get_or x 0 0) (get_or y 0 0)) [] (fields_from k 0 (values_in x) (values_in y))
