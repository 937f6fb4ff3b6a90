-- The laws of the fields by their places: a number of the body is the one in its place of the block, so that the readers'
-- fields are those of the table. Assumes nothing.
use Prim.Native.Nat.{ℕ, ◌+◌, ◌*◌, ◌≤◌}
use mathlib.Core.Path.{◌≡◌, refl, sym, ap, ◌∙◌}
use mathlib.Core.Bool.{true}
use mathlib.Core.List.{List}
use native.Mathlib.Omega.{arith}
use native.Mathlib.Nat.{add_assoc}
use borrow.Author.Tests.{eq-eqb, leb-true}
use lib.Dec.{leb}
use lib.ListN.{length, get_or, drop, length-drop}
use lib.Seq.{get_or-drop}
use Rattle.refusal.proofs.Tests.{passed}
use Rattle.wire.specs.BigEndian.{be16, be32, u16_at, u32_at}
use Rattle.wire.proofs.Numbers.{u16_inside, u32_inside}
use Rattle.block.specs.Fields.{fields_of}
use Rattle.block.specs.Layouts.{measurement_in, loss_in, discard_in, effective_in, streams_in}
use Rattle.block.specs.Reading.{read_block, read_bytes}
use Rattle.block.specs.declared.Block.{Block}
use Rattle.block.specs.declared.BlockRead.TheVariants.{Typed, Unknown}
use Rattle.block.proofs.Cases.{typed_answers}
use Rattle.difference.specs.Differences.{fields_from}
use Rattle.difference.specs.Places.{places_of, values_by, size_of, values_in, field_differences}
use Rattle.difference.specs.Laws.{FieldsAre, ThreeInEight, AsMany}

-- a number of the body, by its place in the block
module _ (s : List ℕ) where
  be16_at : (i : ℕ) → be16 (drop 4 s) i ≡ be16 s (4 + i)
  unfolding be16
  be16_at i = rw (get_or-drop 4 s i 0, get_or-drop 4 s (i + 1) 0, ← add_assoc 4 i 1)

  be32_at : (i : ℕ) → be32 (drop 4 s) i ≡ be32 s (4 + i)
  unfolding be32
  be32_at i = rw (be16_at i, be16_at (i + 2), ← add_assoc 4 i 2)

  pub half_at : (i : ℕ) → i + 2 ≤ length (drop 4 s) → be16 (drop 4 s) i ≡ u16_at s (4 + i)
  half_at i h = be16_at i ∙ sym (u16_inside s (4 + i) (let d = length-drop 4 s in omega arith))

  pub word_at : (i : ℕ) → i + 4 ≤ length (drop 4 s) → be32 (drop 4 s) i ≡ u32_at s (4 + i)
  word_at i h = be32_at i ∙ sym (u32_inside s (4 + i) (let d = length-drop 4 s in omega arith))

  -- what is said of a typed block of this type
  abbrev InPlaces : ℕ → Block → Type 0
  InPlaces type b = (values_by type s ≡ fields_of b) × (length (drop 4 s) + 4 ≡ size_of type) × (8 * length (fields_of b) ≤ 3 * size_of type) × (length (places_of type) ≡ length (fields_of b))

  in_places_lem : (type : ℕ) (b : Block) → read_block type (get_or s 1 0) (drop 4 s) ≡ Typed b → InPlaces type b
  unfolding measurement_in loss_in discard_in effective_in streams_in
  in_places_lem =
      typed_answers (get_or s 1 0) (drop 4 s) InPlaces
      (λ size. (rw (word_at 0 (omega arith), half_at 6 (omega arith), word_at 8 (omega arith), word_at 12 (omega arith), word_at 16 (omega arith), word_at 20 (omega arith), word_at 24 (omega arith)), omega arith, omega arith, refl))
      (λ size good. (rw (word_at 0 (omega arith), half_at 4 (omega arith), half_at 6 (omega arith), half_at 8 (omega arith), half_at 10 (omega arith)), omega arith, omega arith, refl))
      (λ size good. (rw (word_at 0 (omega arith), half_at 4 (omega arith), half_at 6 (omega arith)), omega arith, omega arith, refl))
      (λ size. (rw (word_at 0 (omega arith), half_at 4 (omega arith)), omega arith, omega arith, refl))
      (λ size. (rw (word_at 0 (omega arith), half_at 4 (omega arith), half_at 6 (omega arith), word_at 8 (omega arith), word_at 12 (omega arith), word_at 16 (omega arith), word_at 20 (omega arith), word_at 24 (omega arith), word_at 28 (omega arith), word_at 32 (omega arith), word_at 36 (omega arith), word_at 40 (omega arith)), omega arith, omega arith, refl))

-- bytes that are read as a typed block are four or more, and their first names the type
read_typed : (s : List ℕ) (b : Block) → read_bytes s ≡ Typed b → (leb 4 (length s) ≡ true) × (read_block (get_or s 0 0) (get_or s 1 0) (drop 4 s) ≡ Typed b)
unfolding read_bytes
read_typed s b h = passed (leb 4 (length s)) Unknown _ (Typed b) (λ e. let z : ◌≡◌ {A = ℕ} 0 1 = cc in omega arith) h

-- so their size is that of the type
pub typed_size : (s : List ℕ) (b : Block) → read_bytes s ≡ Typed b → length s ≡ size_of (get_or s 0 0)
typed_size s b h =
    let p = read_typed s b h in
    let long = leb-true 4 (length s) p.0 in
    let rest = length-drop 4 s in
    let size = (in_places_lem s (get_or s 0 0) b p.1).1 in
    omega arith

-- the fields of bytes with the size of the type that the first names
pub by_type : (s : List ℕ) → length s ≡ size_of (get_or s 0 0) → values_in s ≡ values_by (get_or s 0 0) s
unfolding values_in
by_type s size = rw (eq-eqb (length s) (size_of (get_or s 0 0)) size)

pub fields_are : FieldsAre
fields_are s b h = by_type s (typed_size s b h) ∙ (in_places_lem s (get_or s 0 0) b (read_typed s b h).1).0

pub three_in_eight : ThreeInEight
three_in_eight s b h =
    let size = typed_size s b h in
    let few = (in_places_lem s (get_or s 0 0) b (read_typed s b h).1).2 in
    omega arith

pub as_many : AsMany
as_many s s' b c h h' same =
    sym (in_places_lem s (get_or s 0 0) b (read_typed s b h).1).3 ∙ ap (λ t. length (places_of t)) same ∙ (in_places_lem s' (get_or s' 0 0) c (read_typed s' c h').1).3

-- two typed blocks of one type differ in the fields that were read
pub typed_differences : (k : ℕ) (x y : List ℕ) (b c : Block) → read_bytes x ≡ Typed b → read_bytes y ≡ Typed c → get_or x 0 0 ≡ get_or y 0 0 →
    field_differences k x y ≡ fields_from k 0 (fields_of b) (fields_of c)
unfolding field_differences
typed_differences k x y b c h h' same = rw (eq-eqb (get_or x 0 0) (get_or y 0 0) same, fields_are x b h, fields_are y c h')
